use Rattle.std.proofs.Common.{◌≡◌, ◌∙◌, rules, refl, sym, ap, subst, map, drop, List, Option, Some, None, Ok, Err, true, false, not, option_map, ◌∷◌, ◌+◌}
use Rattle.elab_expr.specs.cpp_lex.Tokens.{lexemes_of}
use Rattle.elab_expr.specs.cpp_types.Typ.{Typ, typ_of}
use Rattle.elab_expr.specs.elab_ctx.Ctx.{ctx_of, work_of}
use Rattle.elab_expr.specs.elab_ctx.Says.{Faults}
use Rattle.elab_expr.specs.elab_ctx.Steps.{and_then, check, each_of, at_of}
use Rattle.elab_expr.specs.elab_types.Syntax.{syntax_of, tree_at, trees_at}
use Rattle.class_members.specs.Shown.{home_of, reading, storage_of, header_of, marks_of, definition_of}
use Rattle.class_table.proofs.Walking.{refused, answers_same, faults_then}
use Rattle.elab_expr.specs.elab_rules.Classes.{declared_method, definition_between, last_token, body_in, Definition}
use Rattle.class_table.specs.Written.{defined_method}
use Rattle.class_table.proofs.member_walk.defined_method.Goals as goal

pub returns-clause-members : goal.returns-clause-members
returns-clause-members c bodies =
    answers_same (reading (ctx_of c.declared_method.new.env) (work_of c.args.work.now) bodies c.args.members.now) c.declared_method.result
    (declared_method (lexemes_of c.args.tokens.now) (home_of c.args.home.now)
    (reading (ctx_of c.args.env.now) (work_of c.args.work.now) bodies c.args.members.now) c.args.kind c.args.at
    (Some (definition_of c.in_ok-definition.definition)) (trees_at (syntax_of c.args.nodes.now) c.args.kids.now))
    (defined_method (lexemes_of c.args.tokens.now) (home_of c.args.home.now)
    (reading (ctx_of c.args.env.now) (work_of c.args.work.now) bodies c.args.members.now) c.args.kind c.args.at c.args.token
    (trees_at (syntax_of c.args.nodes.now) c.args.kids.now))
    (ap (λ z. defined_method (lexemes_of c.args.tokens.now) (home_of c.args.home.now)
    (reading (ctx_of c.args.env.now) (work_of c.args.work.now) bodies c.args.members.now) c.args.kind c.args.at z
    (trees_at (syntax_of c.args.nodes.now) c.args.kids.now)) c.in-Some.is
    ∙ ap (λ (z : Definition). declared_method (lexemes_of c.args.tokens.now) (home_of c.args.home.now)
    (reading (ctx_of c.args.env.now) (work_of c.args.work.now) bodies c.args.members.now) c.args.kind c.args.at (Some z)
    (trees_at (syntax_of c.args.nodes.now) c.args.kids.now))
    (ap (definition_between (lexemes_of c.args.tokens.now) c.in-Some.first) (sym c.body_end-last.ensures) ∙ sym c.in_ok-definition.ensures))
    (c.declared_method.ensures.members bodies)
