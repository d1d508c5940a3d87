use Rattle.std.proofs.Common.{◌≡◌, [], ap, rules}
use Rattle.elab_stmt.specs.cpp_lex.Tokens.{lexemes_of}
use Rattle.elab_stmt.specs.elab_types.Syntax.{syntax_of, tree_at, trees_at}
use Rattle.elab_entry.proofs.WithBodies.{listed_is}
use Rattle.elab_entry.proofs.bodies.statements_inside.Goals as goal

pub returns : goal.returns
returns g c =
    let empty : c.new-list.result.items ≡ [] = search rules in
    listed_is (g.L.MakeLambdas.lambdas c.args.lams.now) (lexemes_of c.args.tokens.now) c.args.st.now _
    (tree_at (syntax_of c.args.nodes.now) c.args.body) _ _ _ _ _ _ _ c.node_at.ensures.node
    (ap (trees_at (syntax_of c.args.nodes.now)) c.deref.ensures.value) empty c.in_ok-statements.ensures
