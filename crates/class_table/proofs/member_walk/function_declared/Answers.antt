use Rattle.std.proofs.Common.{◌≡◌, ◌∙◌, rules, refl, sym, ap, subst, map, drop, List, Option, Some, None, Ok, Err, true, false, not, option_map, ◌∷◌, ◌+◌}
use Rattle.elab_expr.specs.cpp_lex.Tokens.{lexemes_of}
use Rattle.elab_expr.specs.cpp_types.Typ.{Typ, typ_of}
use Rattle.elab_expr.specs.elab_ctx.Ctx.{ctx_of, work_of}
use Rattle.elab_expr.specs.elab_ctx.Says.{Faults}
use Rattle.elab_expr.specs.elab_ctx.Steps.{and_then, check, each_of, at_of}
use Rattle.elab_expr.specs.elab_types.Syntax.{syntax_of, tree_at, trees_at}
use Rattle.class_members.specs.Shown.{home_of, reading, storage_of, header_of, marks_of, definition_of}
use Rattle.class_table.proofs.Walking.{refused, answers_same, faults_then}
use Rattle.elab_expr.specs.elab_types.Shown.{declared_of}
use Rattle.elab_expr.specs.cpp_tree.Typing.{form_in}
use Rattle.elab_expr.specs.cpp_tree.declared.program.FuncKind.TheVariants.{Plain, Constructor, Destructor}
use Rattle.elab_expr.specs.cpp_tree.declared.faults.IllRule.TheVariants.{BadDeclaration, OutOfProfile}
use Rattle.elab_expr.specs.elab_rules.Classes.{has_equal, header_in, member_function}
use Rattle.class_table.specs.Written.{function_declared}
use Rattle.class_table.proofs.Members.{function_fails, function_is}
use Rattle.class_table.proofs.member_walk.function_declared.Goals as goal

pub returns-in_err-header : goal.returns-in_err-header
returns-in_err-header c w bodies =
    let is_error : c.from_residual.result ≡ Err c.in_err-header.field-0.0 = search rules in
    refused (reading (ctx_of c.args.env.now) w bodies c.args.members.now) c.from_residual.result c.in_err-header.field-0.0
    (function_declared (lexemes_of c.args.tokens.now) (home_of c.args.home.now) (reading (ctx_of c.args.env.now) w bodies c.args.members.now) c.args.at
    (storage_of c.args.storage) (trees_at (syntax_of c.args.nodes.now) c.args.rest.now) (declared_of c.args.found) (form_in (typ_of c.args.found.ty)))
    (function_declared (lexemes_of c.args.tokens.now) (home_of c.args.home.now) (reading (ctx_of c.args.env.now) w bodies c.args.members.now) c.args.at
    (storage_of c.args.storage) (trees_at (syntax_of c.args.nodes.now) c.args.rest.now) (declared_of c.args.found)
    (form_in (typ_of c.args.found.ty))) is_error refl
    (function_fails (lexemes_of c.args.tokens.now) (home_of c.args.home.now) (reading (ctx_of c.args.env.now) w bodies c.args.members.now) c.args.at
    (storage_of c.args.storage) (trees_at (syntax_of c.args.nodes.now) c.args.rest.now) (declared_of c.args.found)
    (form_in (typ_of c.args.found.ty)) true c.in_err-header.field-0.0
    (ap (λ z. check c.args.at BadDeclaration (not z)) (sym c.has_equal.ensures ∙ c.if-has_equal.false))
    (subst (λ z. Faults c.in_err-header.field-0.0 (header_in c.args.home.now.number (storage_of c.args.storage) Plain c.args.at z (declared_of c.args.found)
    (form_in (typ_of c.args.found.ty)))) c.name_of-name.ensures c.in_err-header.ensures))

pub returns : goal.returns
returns c w bodies =
    answers_same (reading (ctx_of c.member_function.new.env) w bodies c.args.members.now) c.member_function.result
    (member_function (home_of c.args.home.now) (reading (ctx_of c.args.env.now) w bodies c.args.members.now) (header_of c.in_ok-header.header)
    (marks_of c.marks_from-marks.result) None) (function_declared (lexemes_of c.args.tokens.now) (home_of c.args.home.now)
    (reading (ctx_of c.args.env.now) w bodies c.args.members.now) c.args.at (storage_of c.args.storage)
    (trees_at (syntax_of c.args.nodes.now) c.args.rest.now) (declared_of c.args.found) (form_in (typ_of c.args.found.ty)))
    (function_is (lexemes_of c.args.tokens.now) (home_of c.args.home.now) (reading (ctx_of c.args.env.now) w bodies c.args.members.now) c.args.at
    (storage_of c.args.storage) (trees_at (syntax_of c.args.nodes.now) c.args.rest.now) (declared_of c.args.found) (form_in (typ_of c.args.found.ty)) true
    (header_of c.in_ok-header.header) (ap (λ z. check c.args.at BadDeclaration (not z)) (sym c.has_equal.ensures ∙ c.if-has_equal.false))
    (ap (λ z. header_in c.args.home.now.number (storage_of c.args.storage) Plain c.args.at z (declared_of c.args.found) (form_in (typ_of c.args.found.ty)))
    (sym c.name_of-name.ensures) ∙ c.in_ok-header.ensures)
    ∙ ap (λ z. member_function (home_of c.args.home.now) (reading (ctx_of c.args.env.now) w bodies c.args.members.now) (header_of c.in_ok-header.header) z None)
    (sym c.marks_from-marks.ensures))
    (c.member_function.ensures w bodies)
