use Rattle.std.proofs.Common.{◌≡◌, ◌++◌, drop, map}
use Rattle.src_bind.specs.Defs.{defs_of}
use Rattle.src_bind.specs.Numbers.{rows, slot_numbers}
use Rattle.src_bind.proofs.numbers.slot_table.Given as goal

abbrev pub invariant-loop-row : goal.invariant-loop-row
invariant-loop-row l = rows l.table.items ++ map (map (slot_numbers (defs_of l.kept))) (rows (drop l.row-index l.symbols))
    ≡ map (map (slot_numbers (defs_of l.kept))) (rows l.symbols)
