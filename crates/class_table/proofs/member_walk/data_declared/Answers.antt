use Rattle.std.proofs.Common.{◌≡◌, ◌∙◌, rules, refl, sym, ap, subst, map, drop, List, Option, Some, None, Ok, Err, true, false, not, option_map, ◌∷◌, ◌+◌}
use Rattle.elab_expr.specs.cpp_lex.Tokens.{lexemes_of}
use Rattle.elab_expr.specs.cpp_types.Typ.{Typ, typ_of}
use Rattle.elab_expr.specs.elab_ctx.Ctx.{ctx_of, work_of}
use Rattle.elab_expr.specs.elab_ctx.Says.{Faults}
use Rattle.elab_expr.specs.elab_ctx.Steps.{and_then, check, each_of, at_of}
use Rattle.elab_expr.specs.elab_types.Syntax.{syntax_of, tree_at, trees_at}
use Rattle.class_members.specs.Shown.{home_of, reading, storage_of, header_of, marks_of, definition_of}
use Rattle.class_table.proofs.Walking.{refused, answers_same, faults_then}
use Rattle.elab_expr.specs.elab_types.Shown.{declared_of}
use Rattle.elab_expr.specs.cpp_tree.declared.faults.IllRule.TheVariants.{BadDeclaration, OutOfProfile}
use Rattle.elab_expr.specs.elab_rules.Statements.{name_of}
use Rattle.elab_expr.specs.elab_rules.Classes.{has_initialiser, no_function_words, marks_from, no_marks, data_member}
use Rattle.class_table.specs.Written.{data_declared}
use Rattle.class_table.proofs.member_walk.data_declared.Goals as goal

pub returns : goal.returns
returns c w bodies =
    answers_same (reading (ctx_of c.args.env.now) w bodies c.data_member.new.members) c.data_member.result
    (data_member c.args.home.now.number (reading (ctx_of c.args.env.now) w bodies c.args.members.now) c.args.at c.name_of-name.result.now
    (typ_of c.args.found.now.ty) c.has_initialiser-is_initialised.result)
    (data_declared (lexemes_of c.args.tokens.now) (home_of c.args.home.now) (reading (ctx_of c.args.env.now) w bodies c.args.members.now) c.args.at
    (storage_of c.args.storage) (trees_at (syntax_of c.args.nodes.now) c.args.rest.now) (declared_of c.args.found.now))
    (ap (λ z. and_then (check c.args.at BadDeclaration z)
    (λ y. data_member c.args.home.now.number (reading (ctx_of c.args.env.now) w bodies c.args.members.now) c.args.at
    (name_of (lexemes_of c.args.tokens.now) c.args.found.now.name) (typ_of c.args.found.now.ty)
    (has_initialiser (trees_at (syntax_of c.args.nodes.now) c.args.rest.now))))
    (ap (no_function_words (storage_of c.args.storage)) (sym c.marks_from-marks.ensures) ∙ sym c.no_function_words.ensures
    ∙ c.if-not-no_function_words.false)
    ∙ ap (λ z. data_member c.args.home.now.number (reading (ctx_of c.args.env.now) w bodies c.args.members.now) c.args.at z (typ_of c.args.found.now.ty)
    (has_initialiser (trees_at (syntax_of c.args.nodes.now) c.args.rest.now))) (sym c.name_of-name.ensures)
    ∙ ap (λ z. data_member c.args.home.now.number (reading (ctx_of c.args.env.now) w bodies c.args.members.now) c.args.at c.name_of-name.result.now
    (typ_of c.args.found.now.ty) z) (sym c.has_initialiser-is_initialised.ensures))
    (c.data_member.ensures w bodies)
