-- Kids, one behind the other.
use Rattle.std.proofs.Common.{◌≡◌, ◌<◌, ◌≤◌, ◌+◌, ℕ, List, length, drop, get_or, ap}
use Rattle.elab_entry.specs.cpp_ast.declared.arena.NodeId.{NodeId}
use Rattle.elab_entry.specs.cpp_ast.Trees.{Tree, more, none}
use Rattle.elab_entry.specs.elab_types.Syntax.{trees_at, tree_at}
use Rattle.elab_entry.proofs.elab_init.Listing.{drop_step, drop_past}

pub trees_step : (trees : List Tree) (ids : List NodeId) (i : ℕ) (d : NodeId) → i < length ids
    → trees_at trees (drop i ids) ≡ more (tree_at trees (get_or ids i d)) (trees_at trees (drop (i + 1) ids))
trees_step trees ids i d h = ap (trees_at trees) (drop_step ids i d h)

pub trees_past : (trees : List Tree) (ids : List NodeId) (i : ℕ) → length ids ≤ i → trees_at trees (drop i ids) ≡ none
trees_past trees ids i h = ap (trees_at trees) (drop_past ids i h)
