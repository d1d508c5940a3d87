use Rattle.std.proofs.Common.{◌+◌, ◌*◌, drop}
use Rattle.elab_stmt.specs.cpp_tree.Arena.{trees_of, trees_at}
use Rattle.elab_stmt.proofs.elab_init.Listing.{Adding}
use Rattle.elab_entry.proofs.copying.+copies.Given as goal

abbrev pub decreases-copy_tree : goal.decreases-copy_tree
decreases-copy_tree l = l.id.0 * 2 + 1

abbrev pub decreases-copy_all : goal.decreases-copy_all
decreases-copy_all l = l.parent.0 * 2

abbrev pub invariant-copy_all-loop-id : goal.invariant-copy_all-loop-id
invariant-copy_all-loop-id l = Adding (trees_of l.fn.nodes.items) (trees_of l.nodes.items) l.list.items
    (trees_at (trees_of l.from.items) (drop l.id-index l.ids)) (trees_at (trees_of l.from.items) l.ids)
