-- Kids at their places.
use Rattle.std.proofs.Common.{◌≡◌, ℕ, zero, suc, ◌-◌, ◌+◌, ◌<◌, true, nat_lt, List, [], ◌∷◌, length, take, drop, get_or, refl, ap, add-one}
use Rattle.std.proofs.Math.Seq.{drop-cons}
use Rattle.elab_init.specs.cpp_ast.Trees.{Tree, more}
use Rattle.elab_types.specs.Syntax.{tree_at, trees_at}
use Rattle.std.proofs.lemmas.Bool.{and_parts}
use Rattle.std.proofs.lemmas.List.{take_rest}
use Rattle.elab_init.specs.cpp_ast.Orders.{are_below}
use Rattle.elab_init.specs.cpp_ast.declared.arena.NodeId.{NodeId}

pub below_drop : (limit : ℕ) (ids : List NodeId) (n : ℕ) → are_below limit ids ≡ true → are_below limit (drop n ids) ≡ true
below_drop limit ids zero b = b
below_drop limit [] (suc n) b = refl
below_drop limit (a ∷ ids) (suc n) b = below_drop limit ids n (and_parts (nat_lt a.0 limit) (are_below limit ids) b).1

pub below_rest : (limit : ℕ) (ids : List NodeId) (n : ℕ) → are_below limit ids ≡ true → are_below limit (take (length ids - n) (drop n ids)) ≡ true
below_rest limit ids n b = rw (take_rest ids n) (below_drop limit ids n b)

-- the trees of the kids from a place on, the first one apart
pub trees_next : (trees : List Tree) (ids : List NodeId) (i : ℕ) (d : NodeId) → i < length ids
    → trees_at trees (drop i ids) ≡ more (tree_at trees (get_or ids i d)) (trees_at trees (drop (i + 1) ids))
trees_next trees ids i d h = rw (add-one i) (ap (trees_at trees) (drop-cons ids i d h))
