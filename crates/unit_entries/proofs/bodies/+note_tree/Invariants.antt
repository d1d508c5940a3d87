use Rattle.std.proofs.Common.{◌≡◌, drop}
use Rattle.cpp_tree.specs.Arena.{trees_of, trees_at}
use Rattle.unit_entries.specs.Uses.{noted_all}
use Rattle.unit_entries.specs.Marked.{marks_in}
use Rattle.unit_entries.proofs.bodies.+note_tree.Given as goal

abbrev pub decreases-note_tree : goal.decreases-note_tree
decreases-note_tree l = l.id.0

abbrev pub invariant-loop-kid : goal.invariant-loop-kid
invariant-loop-kid l = noted_all l.deeper (trees_at (trees_of l.unit.nodes.items) (drop l.kid-index l.kid-items)) (marks_in l.uses)
    ≡ noted_all l.deeper (trees_at (trees_of l.unit.nodes.items) l.kid-items) (marks_in l.initial.uses)
