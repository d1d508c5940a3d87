use Rattle.std.proofs.Common.{◌≡◌, ◌∙◌, rules, refl, sym, ap, subst, map, drop, List, Option, Some, None, Ok, Err, true, false, not, option_map, ◌∷◌, ◌+◌}
use Rattle.elab_expr.specs.cpp_lex.Tokens.{lexemes_of}
use Rattle.elab_expr.specs.cpp_types.Typ.{Typ, typ_of}
use Rattle.elab_expr.specs.elab_ctx.Ctx.{ctx_of, work_of}
use Rattle.elab_expr.specs.elab_ctx.Says.{Faults}
use Rattle.elab_expr.specs.elab_ctx.Steps.{and_then, check, each_of, at_of}
use Rattle.elab_expr.specs.elab_types.Syntax.{syntax_of, tree_at, trees_at}
use Rattle.elab_expr.specs.cpp_ast.declared.arena.NodeId.{NodeId}
use Rattle.class_members.specs.Shown.{home_of, reading, storage_of, header_of, marks_of, definition_of}
use Rattle.class_table.proofs.Walking.{refused, answers_same, faults_then}
use Rattle.elab_expr.specs.elab_rules.Classes.{within_bounds, declarator_among, method_of, member_function, marks_from, no_marks, declared_method}
use Rattle.class_table.specs.Written.{at_hand, method_shown}
use Rattle.class_table.proofs.Members.{method_bound, method_fails, method_is}
use Rattle.elab_expr.proofs.Unmoved.{unmoved_all}
use Rattle.class_table.proofs.member_walk.declared_method.Goals as goal

pub returns-in_err-within_bounds-clause-members : goal.returns-in_err-within_bounds-clause-members
returns-in_err-within_bounds-clause-members c bodies =
    let is_error : c.from_residual.result ≡ Err c.in_err-within_bounds.field-0.0 = search rules in
    refused (reading (ctx_of c.args.env.now) (work_of c.args.work.now) bodies c.args.members.now) c.from_residual.result c.in_err-within_bounds.field-0.0
    (declared_method (lexemes_of c.args.tokens.now) (home_of c.args.home.now)
    (reading (ctx_of c.args.env.now) (work_of c.args.work.now) bodies c.args.members.now) c.args.kind c.args.at (option_map definition_of c.args.definition)
    (trees_at (syntax_of c.args.nodes.now) c.args.kids.now))
    (declared_method (lexemes_of c.args.tokens.now) (home_of c.args.home.now)
    (reading (ctx_of c.args.env.now) (work_of c.args.work.now) bodies c.args.members.now) c.args.kind c.args.at (option_map definition_of c.args.definition)
    (trees_at (syntax_of c.args.nodes.now) c.args.kids.now)) is_error refl
    (method_bound (lexemes_of c.args.tokens.now) (home_of c.args.home.now)
    (reading (ctx_of c.args.env.now) (work_of c.args.work.now) bodies c.args.members.now) c.args.kind c.args.at (option_map definition_of c.args.definition)
    (trees_at (syntax_of c.args.nodes.now) c.args.kids.now) c.in_err-within_bounds.field-0.0
    (subst (λ z. Faults c.in_err-within_bounds.field-0.0 (within_bounds z))
    (c.declarator_among.ensures (work_of c.args.work.now) bodies) c.in_err-within_bounds.ensures))

pub returns-in_err-method-clause-members : goal.returns-in_err-method-clause-members
returns-in_err-method-clause-members c bodies =
    let is_error : c.from_residual-in_err-method.result ≡ Err c.in_err-method.field-0.0 = search rules in
    refused (reading (ctx_of c.args.env.now) (work_of c.args.work.now) bodies c.args.members.now) c.from_residual-in_err-method.result c.in_err-method.field-0.0
    (declared_method (lexemes_of c.args.tokens.now) (home_of c.args.home.now)
    (reading (ctx_of c.args.env.now) (work_of c.args.work.now) bodies c.args.members.now) c.args.kind c.args.at (option_map definition_of c.args.definition)
    (trees_at (syntax_of c.args.nodes.now) c.args.kids.now))
    (declared_method (lexemes_of c.args.tokens.now) (home_of c.args.home.now)
    (reading (ctx_of c.args.env.now) (work_of c.args.work.now) bodies c.args.members.now) c.args.kind c.args.at (option_map definition_of c.args.definition)
    (trees_at (syntax_of c.args.nodes.now) c.args.kids.now)) is_error refl
    (method_fails (lexemes_of c.args.tokens.now) (home_of c.args.home.now)
    (reading (ctx_of c.args.env.now) (work_of c.args.work.now) bodies c.args.members.now) c.args.kind c.args.at (option_map definition_of c.args.definition)
    (trees_at (syntax_of c.args.nodes.now) c.args.kids.now) c.in_ok-within_bounds.field-0 c.in_err-method.field-0.0
    (ap within_bounds (sym (c.declarator_among.ensures (work_of c.args.work.now) bodies)) ∙ c.in_ok-within_bounds.ensures)
    (subst (λ z. Faults c.in_err-method.field-0.0 (method_of (lexemes_of c.args.tokens.now)
    (at_hand (ctx_of c.args.env.now) (work_of c.args.work.now) bodies) c.args.home.now.number z c.args.at c.args.kind
    (trees_at (syntax_of c.args.nodes.now) c.args.kids.now))) c.deref.ensures.value (c.in_err-method.ensures.method bodies)))

pub returns-clause-members : goal.returns-clause-members
returns-clause-members c bodies =
    answers_same (reading (ctx_of c.member_function.new.env) (work_of c.args.work.now) bodies c.args.members.now) c.member_function.result
    (member_function (home_of c.args.home.now) (reading (ctx_of c.args.env.now) (work_of c.args.work.now) bodies c.args.members.now)
    (header_of c.in_ok-method.method.header) (marks_of c.marks_from-marks.result) (option_map definition_of c.args.definition))
    (declared_method (lexemes_of c.args.tokens.now) (home_of c.args.home.now)
    (reading (ctx_of c.args.env.now) (work_of c.args.work.now) bodies c.args.members.now) c.args.kind c.args.at (option_map definition_of c.args.definition)
    (trees_at (syntax_of c.args.nodes.now) c.args.kids.now))
    (method_is (lexemes_of c.args.tokens.now) (home_of c.args.home.now)
    (reading (ctx_of c.args.env.now) (work_of c.args.work.now) bodies c.args.members.now) c.args.kind c.args.at (option_map definition_of c.args.definition)
    (trees_at (syntax_of c.args.nodes.now) c.args.kids.now) c.in_ok-within_bounds.field-0
    (method_shown (syntax_of c.args.nodes.now) c.args.kids.now c.in_ok-method.method)
    (ap within_bounds (sym (c.declarator_among.ensures (work_of c.args.work.now) bodies)) ∙ c.in_ok-within_bounds.ensures)
    (ap (λ z. method_of (lexemes_of c.args.tokens.now)
    (at_hand (ctx_of c.args.env.now) (work_of c.args.work.now) bodies) c.args.home.now.number z c.args.at c.args.kind
    (trees_at (syntax_of c.args.nodes.now) c.args.kids.now)) (sym c.deref.ensures.value) ∙ c.in_ok-method.ensures.method bodies)
    ∙ ap (λ z. member_function (home_of c.args.home.now) (reading (ctx_of c.args.env.now) (work_of c.args.work.now) bodies c.args.members.now)
    (header_of c.in_ok-method.method.header) z (option_map definition_of c.args.definition))
    (ap (λ (z : List NodeId). marks_from (lexemes_of c.args.tokens.now) no_marks (trees_at (syntax_of c.args.nodes.now) z)) (sym c.rest_from.ensures.rest)
    ∙ sym c.marks_from-marks.ensures))
    (c.member_function.ensures (work_of c.args.work.now) bodies)

pub returns-clause-kept : goal.returns-clause-kept
returns-clause-kept c = unmoved_all c.member_function.result c.args.work.now c.method_of.new.work c.in_ok-method.ensures.kept
