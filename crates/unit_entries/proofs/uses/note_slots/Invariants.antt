use Rattle.std.proofs.Common.{◌≡◌, drop, map, List}
use Rattle.cpp_tree.specs.cpp_types.Class.{classes_of}
use Rattle.cpp_tree.specs.Trees.{Tree}
use Rattle.cpp_tree.specs.Units.{func_of, slot_of}
use Rattle.unit_entries.specs.Uses.{noted_slots}
use Rattle.unit_entries.specs.Marked.{marks_in}
use Rattle.unit_entries.proofs.uses.note_slots.Given as goal

abbrev pub invariant-loop-slot : goal.invariant-loop-slot
invariant-loop-slot l = (trees : List Tree) → noted_slots (classes_of l.classes) (map (func_of trees) l.funcs) (map slot_of (drop l.slot-index l.slots))
    (marks_in l.uses) ≡ noted_slots (classes_of l.classes) (map (func_of trees) l.funcs) (map slot_of l.slots) (marks_in l.initial.uses)
