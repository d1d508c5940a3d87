-- The kids of a node of an arena.
use Rattle.std.proofs.Common.{◌≡◌, ◌∙◌, ◌<◌, ◌≤◌, ℕ, zero, suc, Bool, true, false, ◌&&◌, List, [], ◌∷◌, Option, Some, None, slice_get, get_or, length, ap, sym}
use Rattle.std.proofs.Common.{arith, refl}
use Rattle.std.proofs.lemmas.Bool.{ltb-true}
use Rattle.std.proofs.lemmas.Option.{slice_get-get_or, slice_get_read, slice_get_past}
use Rattle.std.specs.Prelude.{option_map}
use Rattle.cpp_tree.specs.declared.arena.TNode.{TNode}
use Rattle.cpp_tree.specs.declared.arena.TNodeId.{TNodeId}
use Rattle.cpp_tree.specs.Arena.{IsOrdered, are_below, trees_of, tree_of, tree_at}
use Rattle.cpp_tree.proofs.Shown.{tree_of_node}
use Rattle.tx_unsafe.specs.Unsafe.{kid_in}

pub both : (a b : Bool) → (a && b) ≡ true → (a ≡ true) × (b ≡ true)
both true b h = (refl, h)
both false b h = absurd cc

pub below_at : (n : ℕ) (ids : List TNodeId) (i : ℕ) (d : TNodeId) → i < length ids → are_below n ids ≡ true → (get_or ids i d).0 < n
below_at n [] i d l h = absurd (omega arith)
below_at n (id ∷ ids) zero d l h = ltb-true id.0 n ((both _ _ h).0)
below_at n (id ∷ ids) (suc i) d l h = below_at n ids i d (omega arith) ((both _ _ h).1)

pub kid_read : (nodes : List TNode) (ids : List TNodeId) (i : ℕ) (d : TNodeId) (n : TNode) → IsOrdered nodes → are_below (length nodes) ids ≡ true
    → i < length ids
    → n ≡ get_or nodes (get_or ids i d).0 n → kid_in (trees_of nodes) ids i ≡ Some (tree_of (trees_of nodes) n)
kid_read nodes ids i d n o b l h = ap (λ (z : Option TNodeId). option_map (tree_at (trees_of nodes)) z) (slice_get-get_or ids i d l)
    ∙ ap Some (tree_of_node nodes (get_or ids i d) n o (slice_get_read nodes (length nodes) (get_or ids i d).0 n refl (below_at (length nodes) ids i d l b) h))

pub kid_missing : (nodes : List TNode) (ids : List TNodeId) (i : ℕ) → length ids ≤ i → kid_in (trees_of nodes) ids i ≡ None
kid_missing nodes ids i l = ap (λ (z : Option TNodeId). option_map (tree_at (trees_of nodes)) z) (slice_get_past ids i l)
