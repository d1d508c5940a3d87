use Rattle.std.proofs.Common.{refl}
use Rattle.elab_entry.specs.cpp_lex.Tokens.{lexemes_of}
use Rattle.elab_entry.specs.elab_types.Syntax.{syntax_of, tree_at}
use Rattle.elab_members.proofs.ObjectBodies.{place_is, block_done}
use Rattle.elab_members.proofs.constructors.constructor_block.Goals as goal

pub returns : goal.returns
returns g c = block_done (g.L.MakeLambdas.lambdas c.args.lams.now) (lexemes_of c.args.tokens.now) c.args.st.now _ _ c.args.parts.items _
    (tree_at (syntax_of c.args.nodes.now) c.args.body) _ _ c.requires.parts c.in_ok-list.ensures
    (place_is (tree_at (syntax_of c.args.nodes.now) c.args.body) _ _ _ _ _ c.node_at.ensures.node c.place-at.ensures) c.in_ok-made.ensures refl
