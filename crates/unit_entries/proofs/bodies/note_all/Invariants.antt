use Rattle.std.proofs.Common.{◌≡◌, drop, map}
use Rattle.cpp_tree.specs.Arena.{trees_of}
use Rattle.cpp_tree.specs.Units.{func_of, unit_of}
use Rattle.unit_entries.specs.Uses.{noted_bodies}
use Rattle.unit_entries.specs.Marked.{marks_in}
use Rattle.unit_entries.proofs.bodies.note_all.Given as goal

abbrev pub invariant-loop-i : goal.invariant-loop-i
invariant-loop-i l = noted_bodies l.safe l.i (map (func_of (trees_of l.unit.nodes.items)) (drop l.i l.unit.funcs.items)) (marks_in l.uses)
    ≡ noted_bodies l.safe 0 (unit_of l.unit).funcs (marks_in l.initial.uses)
