use Rattle.std.proofs.Common.{◌≡◌, ◌∙◌, rules, refl, sym, ap, subst, map, drop, List, Option, Some, None, Ok, Err, true, false, not, option_map, ◌∷◌, ◌+◌}
use Rattle.elab_expr.specs.cpp_lex.Tokens.{lexemes_of}
use Rattle.elab_expr.specs.cpp_types.Typ.{Typ, typ_of}
use Rattle.elab_expr.specs.elab_ctx.Ctx.{ctx_of, work_of}
use Rattle.elab_expr.specs.elab_ctx.Says.{Faults}
use Rattle.elab_expr.specs.elab_ctx.Steps.{and_then, check, each_of, at_of}
use Rattle.elab_expr.specs.elab_types.Syntax.{syntax_of, tree_at, trees_at}
use Rattle.class_members.specs.Shown.{home_of, reading, storage_of, header_of, marks_of, definition_of}
use Rattle.class_table.proofs.Walking.{refused, answers_same, faults_then}
use Rattle.elab_expr.specs.elab_types.Shown.{declared_of}
use Rattle.elab_expr.specs.cpp_tree.Typing.{form_in}
use Rattle.class_table.specs.Written.{function_declared, data_declared, member_declared}
use Rattle.class_table.proofs.Walking.{function_chosen, data_chosen}
use Rattle.class_table.proofs.member_walk.declared_member.Goals as goal

pub returns-then-is_function : goal.returns-then-is_function
returns-then-is_function c w bodies =
    answers_same (reading (ctx_of c.function_declared.new.env) w bodies c.args.members.now) c.function_declared.result
    (function_declared (lexemes_of c.args.tokens.now) (home_of c.args.home.now) (reading (ctx_of c.args.env.now) w bodies c.args.members.now) c.args.at
    (storage_of c.args.storage) (trees_at (syntax_of c.args.nodes.now) c.args.rest.now) (declared_of c.args.found) (form_in (typ_of c.args.found.ty)))
    (member_declared (lexemes_of c.args.tokens.now) (home_of c.args.home.now) (reading (ctx_of c.args.env.now) w bodies c.args.members.now) c.args.at
    (storage_of c.args.storage) (trees_at (syntax_of c.args.nodes.now) c.args.rest.now) (declared_of c.args.found))
    (function_chosen (lexemes_of c.args.tokens.now) (home_of c.args.home.now) (reading (ctx_of c.args.env.now) w bodies c.args.members.now) c.args.at
    (storage_of c.args.storage) (trees_at (syntax_of c.args.nodes.now) c.args.rest.now) (declared_of c.args.found) (form_in (typ_of c.args.found.ty))
    (sym c.is_function.ensures ∙ c.if-is_function.true)) (c.function_declared.ensures w bodies)

pub returns : goal.returns
returns c w bodies =
    answers_same (reading (ctx_of c.args.env.now) w bodies c.data_declared.new.members) c.data_declared.result
    (data_declared (lexemes_of c.args.tokens.now) (home_of c.args.home.now) (reading (ctx_of c.args.env.now) w bodies c.args.members.now) c.args.at
    (storage_of c.args.storage) (trees_at (syntax_of c.args.nodes.now) c.args.rest.now) (declared_of c.args.found))
    (member_declared (lexemes_of c.args.tokens.now) (home_of c.args.home.now) (reading (ctx_of c.args.env.now) w bodies c.args.members.now) c.args.at
    (storage_of c.args.storage) (trees_at (syntax_of c.args.nodes.now) c.args.rest.now) (declared_of c.args.found))
    (data_chosen (lexemes_of c.args.tokens.now) (home_of c.args.home.now) (reading (ctx_of c.args.env.now) w bodies c.args.members.now) c.args.at
    (storage_of c.args.storage) (trees_at (syntax_of c.args.nodes.now) c.args.rest.now) (declared_of c.args.found) (form_in (typ_of c.args.found.ty))
    (sym c.is_function.ensures ∙ c.if-is_function.false)) (c.data_declared.ensures w bodies)
