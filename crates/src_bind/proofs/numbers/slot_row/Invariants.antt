use Rattle.std.proofs.Common.{◌≡◌, ◌++◌, drop, map}
use Rattle.src_bind.specs.Defs.{defs_of}
use Rattle.src_bind.specs.Numbers.{slot_numbers}
use Rattle.src_bind.proofs.numbers.slot_row.Given as goal

abbrev pub invariant-loop-symbol : goal.invariant-loop-symbol
invariant-loop-symbol l = l.row.items ++ map (slot_numbers (defs_of l.kept)) (drop l.symbol-index l.symbols) ≡ map (slot_numbers (defs_of l.kept)) l.symbols
