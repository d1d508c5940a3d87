-- What is known of nodes in ordered lists, and of what is sound.
use Rattle.std.proofs.Common.{◌≡◌, ap₂, ◌∙◌, List, Some}
use Rattle.std.specs.Prelude.{slice_get}
use Rattle.cpp_tree.specs.Arena.{IsOrdered}
use Rattle.cpp_tree.specs.Trees.{node}
use Rattle.cpp_tree.specs.declared.arena.TNode.{TNode}
use Rattle.cpp_tree.specs.declared.arena.TNodeId.{TNodeId}
use Rattle.cpp_tree.specs.declared.kinds.TKind.{TKind}
use Rattle.low_code.specs.declared.scopes.ScopeKind.{ScopeKind}
use Rattle.src_mean.specs.Linked.{Func, Program}
use Rattle.unwind_lower.specs.declared.items.Item.{Item}
use Rattle.unwind_lower.specs.Settings.{Setting, node_in}
use Rattle.lowered_frames.specs.Modes.{Mode, trees_in}
use Rattle.lowered_frames.specs.Left.{Left, temporaries}
use Rattle.lowered_frames.specs.Sound.{Sound}
use Rattle.lowered_frames.proofs.Foreseen.{goes_on}
use Rattle.lowered_frames.proofs.Trees.{tree_is}
use Rattle.lowered_notes.specs.Canonical.{IsForeseen, numbers_of}
use Rattle.lowered_steps.specs.Passing.{IsNode}

-- a node with its kids has the trees of these
pub is_node : (g : Setting) → IsOrdered g.unit.nodes.items → (id : TNodeId) (n : TNode) → slice_get g.unit.nodes.items id.0 ≡ Some n
    → (kind : TKind) (kids : List TNodeId) → (node_in g id).kind ≡ kind → (node_in g id).kids ≡ kids → IsNode g id kind kids
is_node g o id n e kind kids kind_is kids_are = record {
  kind_is = kind_is;
  kids_are = kids_are;
  typ = (node_in g id).typ;
  cat = n.cat;
  place = (node_in g id).at;
  tree_is = tree_is g o id n e
      ∙ ap₂ (λ (y : TKind) (z : List TNodeId). node y (node_in g id).typ n.cat (node_in g id).at (trees_in g z)) kind_is kids_are;
}

-- the source goes on from what is sound
pub sound_goes : (p : Program) (f : Func) (g : Setting) {m : Mode} {items : List Item} (d : Left g m items) (chain : List ScopeKind) → Sound g d → IsForeseen p f g d chain
sound_goes p f g d chain sound answers v es ts comes = goes_on p f answers g (numbers_of p f g) d sound chain es ts (temporaries g d chain ts) v
