-- The tree of a node has the trees of its kids.
use Rattle.std.proofs.Common.{◌≡◌, ◌≤◌, refl, ap, sym, ◌∙◌, List, [], ◌∷◌, Some, arith}
use Rattle.std.specs.Prelude.{slice_get, drop, length}
use Rattle.cpp_tree.specs.Arena.{IsOrdered}
use Rattle.cpp_tree.specs.Trees.{node, first, rest, second, third}
use Rattle.cpp_tree.specs.declared.arena.TNode.{TNode}
use Rattle.cpp_tree.specs.declared.arena.TNodeId.{TNodeId}
use Rattle.cpp_tree.proofs.Shown.{tree_of_node}
use Rattle.low_code.specs.Nodes.{Node, node_of, node_or, kid_in}
use Rattle.unwind_lower.specs.Settings.{Setting, node_in}
use Rattle.lowered_frames.specs.Modes.{tree_in, trees_in}

module _ (g : Setting) where
  -- what the node shows
  shown : (id : TNodeId) (n : TNode) → slice_get g.unit.nodes.items id.0 ≡ Some n → node_in g id ≡ node_of n
  unfolding node_in
  shown id n e = ap node_or e

  pub tree_is : IsOrdered g.unit.nodes.items → (id : TNodeId) (n : TNode) → slice_get g.unit.nodes.items id.0 ≡ Some n
      → tree_in g id ≡ node (node_in g id).kind (node_in g id).typ n.cat (node_in g id).at (trees_in g (node_in g id).kids)
  unfolding tree_in trees_in
  tree_is o id n e = tree_of_node g.unit.nodes.items id n o e
      ∙ ap (λ (z : Node). node z.kind z.typ n.cat z.at (trees_in g z.kids)) (sym (shown id n e))

  pub rest_is : (ids : List TNodeId) → rest (trees_in g ids) ≡ trees_in g (drop 1 ids)
  unfolding trees_in
  rest_is [] = refl
  rest_is (id ∷ ids) = refl

  pub first_is : (ids : List TNodeId) → 1 ≤ length ids → first (trees_in g ids) ≡ tree_in g (kid_in ids 0)
  unfolding tree_in trees_in
  first_is [] e = absurd (omega (arith, e))
  first_is (id ∷ ids) e = refl

  pub second_is : (ids : List TNodeId) → 2 ≤ length ids → second (trees_in g ids) ≡ tree_in g (kid_in ids 1)
  unfolding tree_in trees_in
  second_is [] e = absurd (omega (arith, e))
  second_is (id ∷ []) e = absurd (omega (arith, e))
  second_is (id ∷ other ∷ ids) e = refl

  pub third_is : (ids : List TNodeId) → 3 ≤ length ids → third (trees_in g ids) ≡ tree_in g (kid_in ids 2)
  unfolding tree_in trees_in
  third_is [] e = absurd (omega (arith, e))
  third_is (id ∷ []) e = absurd (omega (arith, e))
  third_is (id ∷ other ∷ []) e = absurd (omega (arith, e))
  third_is (id ∷ other ∷ another ∷ ids) e = refl
