use Rattle.std.proofs.Common.{◌+◌, ◌*◌, drop}
use Rattle.elab_stmt.specs.cpp_tree.Arena.{trees_of, trees_at}
use Rattle.elab_stmt.specs.elab_rules.Functions.{all_untyped}
use Rattle.elab_stmt.proofs.elab_init.Listing.{Adding}
use Rattle.elab_entry.proofs.ends.+untyped.Given as goal

abbrev pub decreases-untyped : goal.decreases-untyped
decreases-untyped l = l.id.0 * 2 + 1

abbrev pub decreases-all_untyped : goal.decreases-all_untyped
decreases-all_untyped l = l.parent.0 * 2

abbrev pub invariant-all_untyped-loop-id : goal.invariant-all_untyped-loop-id
invariant-all_untyped-loop-id l = Adding (trees_of l.fn.nodes.items) (trees_of l.nodes.items) l.list.items
    (all_untyped (trees_at (trees_of l.from.items) (drop l.id-index l.ids))) (all_untyped (trees_at (trees_of l.from.items) l.ids))
