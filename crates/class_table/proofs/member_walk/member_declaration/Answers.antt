use Rattle.std.proofs.Common.{◌≡◌, ◌∙◌, rules, refl, sym, ap, subst, map, drop, List, Option, Some, None, Ok, Err, true, false, not, option_map, ◌∷◌, ◌+◌}
use Rattle.elab_expr.specs.cpp_lex.Tokens.{lexemes_of}
use Rattle.elab_expr.specs.cpp_types.Typ.{Typ, typ_of}
use Rattle.elab_expr.specs.elab_ctx.Ctx.{Work, ctx_of, work_of}
use Rattle.elab_expr.specs.elab_ctx.Says.{Faults}
use Rattle.elab_expr.specs.elab_ctx.Steps.{and_then, check, each_of, at_of}
use Rattle.elab_expr.specs.elab_types.Syntax.{syntax_of, tree_at, trees_at}
use Rattle.class_members.specs.Shown.{Answers, home_of, reading, storage_of, header_of, marks_of, definition_of}
use Rattle.class_table.proofs.Walking.{refused, answers_same, faults_then}
use Rattle.elab_expr.specs.cpp_ast.declared.arena.NodeId.{NodeId}
use Rattle.elab_expr.specs.elab_rules.Expressions.{type_of_specifiers}
use Rattle.elab_expr.specs.elab_rules.Functions.{no_storage}
use Rattle.elab_expr.specs.elab_rules.Classes.{Started, started_from, member_declaration, member_declarator}
use Rattle.class_table.proofs.Closing.{declaration_fails, declaration_by, started_more}
use Rattle.elab_expr.proofs.Unmoved.{unmoved_after}
use Rattle.class_table.proofs.member_walk.member_declaration.Goals as goal

pub returns-in_err-ty-clause-members : goal.returns-in_err-ty-clause-members
returns-in_err-ty-clause-members c bodies =
    let is_error : c.from_residual.result ≡ Err c.in_err-ty.field-0.0 = search rules in
    refused (reading (ctx_of c.args.env.now) (work_of c.args.work.now) bodies c.args.members.now) c.from_residual.result c.in_err-ty.field-0.0
    (member_declaration (lexemes_of c.args.tokens.now) (home_of c.args.home.now)
    (reading (ctx_of c.args.env.now) (work_of c.args.work.now) bodies c.args.members.now) c.args.at
    (started_from (lexemes_of c.args.tokens.now) no_storage (trees_at (syntax_of c.args.nodes.now) c.args.kids.now)))
    (member_declaration (lexemes_of c.args.tokens.now) (home_of c.args.home.now)
    (reading (ctx_of c.args.env.now) (work_of c.args.work.now) bodies c.args.members.now) c.args.at
    (started_from (lexemes_of c.args.tokens.now) no_storage (trees_at (syntax_of c.args.nodes.now) c.args.kids.now))) is_error refl
    (declaration_fails (lexemes_of c.args.tokens.now) (home_of c.args.home.now)
    (reading (ctx_of c.args.env.now) (work_of c.args.work.now) bodies c.args.members.now) c.args.at
    (started_from (lexemes_of c.args.tokens.now) no_storage (trees_at (syntax_of c.args.nodes.now) c.args.kids.now))
    (storage_of c.started_from-started.result.storage) (tree_at (syntax_of c.args.nodes.now) c.in-Some.base)
    (trees_at (syntax_of c.args.nodes.now) (drop (c.started_from-started.result.count + 1) c.args.kids.now)) c.in_err-ty.field-0.0
    (started_more (started_from (lexemes_of c.args.tokens.now) no_storage (trees_at (syntax_of c.args.nodes.now) c.args.kids.now))
    (storage_of c.started_from-started.result.storage) (syntax_of c.args.nodes.now) c.args.kids.now c.started_from-started.result.count c.in-Some.base
    (ap (λ z. started_from (lexemes_of c.args.tokens.now) z (trees_at (syntax_of c.args.nodes.now) c.args.kids.now)) (sym c.no_storage.ensures)
    ∙ c.started_from-started.ensures.started) c.in-Some.ensures.kid) c.in_err-ty.ensures.says)

pub returns-clause-members : goal.returns-clause-members
returns-clause-members c bodies =
    answers_same (reading (ctx_of c.member_declarators.new.env) (work_of c.args.work.now) bodies c.member_declarators.new.members) c.member_declarators.result
    (each_of (member_declarator (lexemes_of c.args.tokens.now) (home_of c.args.home.now) (storage_of c.started_from-started.result.storage)
    (typ_of c.in_ok-ty.ty)) (reading (ctx_of c.args.env.now) (work_of c.args.work.now) bodies c.args.members.now)
    (trees_at (syntax_of c.args.nodes.now) c.rest_from-rest.result.now))
    (member_declaration (lexemes_of c.args.tokens.now) (home_of c.args.home.now)
    (reading (ctx_of c.args.env.now) (work_of c.args.work.now) bodies c.args.members.now) c.args.at
    (started_from (lexemes_of c.args.tokens.now) no_storage (trees_at (syntax_of c.args.nodes.now) c.args.kids.now)))
    (declaration_by (lexemes_of c.args.tokens.now) (home_of c.args.home.now)
    (reading (ctx_of c.args.env.now) (work_of c.args.work.now) bodies c.args.members.now) c.args.at
    (started_from (lexemes_of c.args.tokens.now) no_storage (trees_at (syntax_of c.args.nodes.now) c.args.kids.now))
    (storage_of c.started_from-started.result.storage) (tree_at (syntax_of c.args.nodes.now) c.in-Some.base)
    (trees_at (syntax_of c.args.nodes.now) (drop (c.started_from-started.result.count + 1) c.args.kids.now)) (typ_of c.in_ok-ty.ty)
    (started_more (started_from (lexemes_of c.args.tokens.now) no_storage (trees_at (syntax_of c.args.nodes.now) c.args.kids.now))
    (storage_of c.started_from-started.result.storage) (syntax_of c.args.nodes.now) c.args.kids.now c.started_from-started.result.count c.in-Some.base
    (ap (λ z. started_from (lexemes_of c.args.tokens.now) z (trees_at (syntax_of c.args.nodes.now) c.args.kids.now)) (sym c.no_storage.ensures)
    ∙ c.started_from-started.ensures.started) c.in-Some.ensures.kid) c.in_ok-ty.ensures.says
    ∙ ap (λ (z : List NodeId). each_of (member_declarator (lexemes_of c.args.tokens.now) (home_of c.args.home.now)
    (storage_of c.started_from-started.result.storage) (typ_of c.in_ok-ty.ty))
    (reading (ctx_of c.args.env.now) (work_of c.args.work.now) bodies c.args.members.now) (trees_at (syntax_of c.args.nodes.now) z))
    (sym c.rest_from-rest.ensures.rest))
    (subst (λ (w : Work). Answers (reading (ctx_of c.member_declarators.new.env) w bodies c.member_declarators.new.members) c.member_declarators.result
    (each_of (member_declarator (lexemes_of c.args.tokens.now) (home_of c.args.home.now) (storage_of c.started_from-started.result.storage)
    (typ_of c.in_ok-ty.ty)) (reading (ctx_of c.args.env.now) w bodies c.args.members.now)
    (trees_at (syntax_of c.args.nodes.now) c.rest_from-rest.result.now))) c.in_ok-ty.ensures.kept.work (c.member_declarators.ensures.members bodies))

pub returns-clause-kept : goal.returns-clause-kept
returns-clause-kept c = unmoved_after c.member_declarators.result c.args.work.now c.type_written.new.work c.member_declarators.new.work
    c.in_ok-ty.ensures.kept c.member_declarators.ensures.kept
