use Rattle.std.proofs.Common.{◌≡◌, ◌++◌, drop, map}
use Rattle.cpp_tree.specs.Units.{slot_of, program_of}
use Rattle.src_link.specs.Slots.{name_of, slot_symbol}
use Rattle.src_link.proofs.slots.slot_row.Given as goal

abbrev pub invariant-loop-slot : goal.invariant-loop-slot
invariant-loop-slot l = map name_of l.row.items ++ map (slot_symbol (program_of l.program)) (map slot_of (drop l.slot-index l.slots))
    ≡ map (slot_symbol (program_of l.program)) (map slot_of l.slots)
