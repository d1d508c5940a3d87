use Rattle.std.proofs.Common.{◌≡◌, ◌+◌, ◌*◌, drop}
use Rattle.elab_entry.specs.cpp_tree.Arena.{trees_of, trees_at}
use Rattle.elab_implicit.specs.Marks.{all_marked}
use Rattle.elab_implicit.proofs.marks.+marks.Given as goal

abbrev pub decreases-mark_tree : goal.decreases-mark_tree
decreases-mark_tree l = l.id.0 * 2 + 1

abbrev pub decreases-mark_all : goal.decreases-mark_all
decreases-mark_all l = l.parent.0 * 2

abbrev pub invariant-mark_all-loop-id : goal.invariant-mark_all-loop-id
invariant-mark_all-loop-id l = all_marked (trees_at (trees_of l.nodes.items) (drop l.id-index l.ids)) l.marks.items
    ≡ all_marked (trees_at (trees_of l.nodes.items) l.ids) l.fn.marks.items
