use Rattle.std.proofs.Common.{◌+◌, ◌*◌, drop}
use Rattle.elab_make.specs.cpp_tree.Arena.{trees_of, trees_at}
use Rattle.elab_make.proofs.elab_init.Listing.{Adding}
use Rattle.elab_aggregates.specs.Requalified.{kids_requalified}
use Rattle.elab_aggregates.proofs.requalifying.+requalified.Given as goal

abbrev pub decreases-requalified : goal.decreases-requalified
decreases-requalified l = l.id.0 * 3 + 1

abbrev pub decreases-requalified_kid : goal.decreases-requalified_kid
decreases-requalified_kid l = l.kid.0 * 3 + 2

abbrev pub decreases-all_requalified : goal.decreases-all_requalified
decreases-all_requalified l = l.parent.0 * 3

abbrev pub invariant-all_requalified-loop-index : goal.invariant-all_requalified-loop-index
invariant-all_requalified-loop-index l = Adding (trees_of l.fn.nodes.items) (trees_of l.nodes.items) l.list.items
    (kids_requalified l.is_const l.is_volatile l.kind l.index (trees_at (trees_of l.fn.nodes.items) (drop l.index l.ids)))
    (kids_requalified l.is_const l.is_volatile l.kind 0 (trees_at (trees_of l.fn.nodes.items) l.ids))
