use Rattle.std.proofs.Common.{map, ap}
use Rattle.elab_stmt.specs.cpp_lex.Tokens.{lexemes_of}
use Rattle.elab_stmt.specs.elab_types.Syntax.{syntax_of, tree_at}
use Rattle.elab_stmt.specs.elab_types.Shown.{parameter_of}
use Rattle.class_members.specs.Shown.{header_of}
use Rattle.elab_entry.proofs.WithBodies.{inside_done}
use Rattle.elab_entry.proofs.bodies.body_inside.Goals as goal

pub returns : goal.returns
returns g c = inside_done (g.L.MakeLambdas.lambdas c.args.lams.now) (lexemes_of c.args.tokens.now) c.args.st.now _ _ _ (header_of c.args.header.now)
    (tree_at (syntax_of c.args.nodes.now) c.args.body) _ _ _ _ _ _ _ _ _ c.node_at.ensures.node
    (ap (map parameter_of) c.deref.ensures.value) c.in_ok-with_parameters.ensures c.in_ok-list.ensures c.result_type-ret.ensures c.place-at.ensures
    c.in_ok-made.ensures.tree c.in_ok-made.ensures.is
