use Rattle.std.proofs.Common.{refl}
use Rattle.elab_entry.specs.cpp_lex.Tokens.{lexemes_of}
use Rattle.elab_entry.specs.elab_types.Syntax.{syntax_of, tree_at}
use Rattle.class_members.specs.Shown.{header_of}
use Rattle.elab_members.proofs.ObjectBodies.{place_is, destructor_done}
use Rattle.elab_members.proofs.destructors.destructor_inside.Goals as goal

pub returns : goal.returns
returns g c = destructor_done (g.L.MakeLambdas.lambdas c.args.lams.now) (lexemes_of c.args.tokens.now) c.args.st.now _ _
    (header_of c.args.header.now) c.args.class (tree_at (syntax_of c.args.nodes.now) c.args.body) _ _ _ _ c.in_ok-list.ensures
    (place_is (tree_at (syntax_of c.args.nodes.now) c.args.body) _ _ _ _ _ c.node_at.ensures.node c.place-at.ensures) refl c.in_ok-made.ensures refl
