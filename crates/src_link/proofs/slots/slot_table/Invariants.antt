use Rattle.std.proofs.Common.{◌≡◌, ◌++◌, drop, map}
use Rattle.cpp_tree.specs.Units.{slot_of, program_of}
use Rattle.src_bind.specs.Numbers.{rows}
use Rattle.src_link.specs.Slots.{name_of, slot_symbol}
use Rattle.src_link.proofs.slots.slot_table.Given as goal

abbrev pub invariant-loop-slots : goal.invariant-loop-slots
invariant-loop-slots l = map (map name_of) (rows l.table.items)
    ++ map (map (slot_symbol (program_of l.program))) (map (λ slots. map slot_of slots.items) (drop l.slots-index l.program.slots.items))
    ≡ map (map (slot_symbol (program_of l.program))) (program_of l.program).slots
