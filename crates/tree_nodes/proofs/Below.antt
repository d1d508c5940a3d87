-- The kids of an ordered list's nodes stand in that list.
use Rattle.std.proofs.Common.{◌≡◌, ◌<◌, ◌≤◌, ℕ, true, List, [], ◌∷◌, Some, slice_get, length, arith, refl}
use Rattle.std.specs.Cmp.Derive.{both_true}
use Rattle.std.proofs.lemmas.Bool.{and_parts, ltb-true, lt-ltb}
use Rattle.cpp_tree.specs.declared.arena.TNode.{TNode}
use Rattle.cpp_tree.specs.declared.arena.TNodeId.{TNodeId}
use Rattle.cpp_tree.specs.Arena.{IsOrdered, are_below}

below_more : (a b : ℕ) (ids : List TNodeId) → a ≤ b → are_below a ids ≡ true → are_below b ids ≡ true
below_more a b [] l h = refl
below_more a b (id ∷ ids) l h =
    let k = and_parts _ (are_below a ids) h in
    let m : id.0 < a = ltb-true id.0 a k.0 in
    let n : id.0 < b = omega arith in
    both_true (lt-ltb id.0 b n) (below_more a b ids l k.1)

pub kids_below : (nodes : List TNode) (id : ℕ) (n : TNode) → IsOrdered nodes → id < length nodes → slice_get nodes id ≡ Some n
    → are_below (length nodes) n.kids.items ≡ true
kids_below nodes id n o l h = below_more id (length nodes) n.kids.items (omega arith) (o.lower id n h)
