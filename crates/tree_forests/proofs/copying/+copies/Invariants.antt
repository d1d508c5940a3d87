use Rattle.std.proofs.Common.{◌+◌, ◌*◌, drop}
use Rattle.cpp_tree.specs.Arena.{trees_of}
use Rattle.tree_forests.specs.Copies.{Copying, trees_before}
use Rattle.tree_forests.proofs.copying.+copies.Given as goal

abbrev pub decreases-copy_node : goal.decreases-copy_node
decreases-copy_node l = l.id.0 * 4 + 2

abbrev pub decreases-copy_all : goal.decreases-copy_all
decreases-copy_all l = l.place * 4 + 1

abbrev pub decreases-copy_before : goal.decreases-copy_before
decreases-copy_before l = l.place * 4

-- the trees of the kids that are left are still to be copied
abbrev pub invariant-copy_all-loop-id : goal.invariant-copy_all-loop-id
invariant-copy_all-loop-id l = Copying l.fn.nodes.items l.nodes.items l.list.items (trees_before (trees_of l.from) l.place (drop l.id-index l.ids))
    (trees_before (trees_of l.from) l.place l.ids)
