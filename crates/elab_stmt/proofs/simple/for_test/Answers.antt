use Rattle.std.proofs.Common.{◌≡◌, ◌∙◌, Err, refl, sym, ap, rules}
use Rattle.elab_locals.specs.cpp_lex.Tokens.{lexemes_of}
use Rattle.elab_locals.specs.elab_types.Syntax.{syntax_of, tree_at, trees_at}
use Rattle.elab_locals.specs.elab_scopes.States.{state_of}
use Rattle.elab_locals.proofs.elab_scopes.Standing.{does_same}
use Rattle.elab_stmt.proofs.Small.{test_absent, test_plain}
use Rattle.elab_stmt.proofs.Steps.{one_same, one_made}
use Rattle.elab_stmt.proofs.simple.for_test.Goals as goal

pub returns-in_ok-made-in-Absent : goal.returns-in_ok-made-in-Absent
returns-in_ok-made-in-Absent g c = one_same _ _ _ _ _
    (test_absent (g.L.MakeLambdas.lambdas c.args.lams.now) (lexemes_of c.args.tokens.now) (state_of c.args.st.now) c.args.at
    (tree_at (syntax_of c.args.nodes.now) c.args.id) _ _ _ _ c.node_at.ensures.node c.in-Absent.is) (one_made _ _ _ _ c.in_ok-made-in-Absent.ensures refl)

pub returns-in_default : goal.returns-in_default
returns-in_default g c = does_same _ _ _ _ _ (test_plain (g.L.MakeLambdas.lambdas c.args.lams.now) (lexemes_of c.args.tokens.now)
    (state_of c.args.st.now) c.args.at
    (tree_at (syntax_of c.args.nodes.now) c.args.id) _ _ _ _ c.node_at.ensures.node c.in_default.not-Absent) c.condition.ensures
