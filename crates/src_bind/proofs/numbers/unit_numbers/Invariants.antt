use Rattle.std.proofs.Common.{◌≡◌, ◌++◌, drop, map}
use Rattle.cpp_tree.specs.Units.{unit_of}
use Rattle.src_bind.specs.Defs.{defs_of}
use Rattle.src_bind.specs.Numbers.{unit_numbers, rows}
use Rattle.src_bind.proofs.numbers.unit_numbers.Given as goal

abbrev pub invariant-loop-i : goal.invariant-loop-i
invariant-loop-i l = rows l.all.items ++ unit_numbers (defs_of l.kept) l.i (map unit_of (drop l.i l.program.units.items))
    ≡ unit_numbers (defs_of l.kept) 0 (map unit_of l.program.units.items)
