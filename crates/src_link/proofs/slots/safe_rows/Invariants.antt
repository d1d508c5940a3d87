use Rattle.std.proofs.Common.{◌≡◌, ◌++◌, drop, map}
use Rattle.cpp_tree.specs.Units.{unit_of, program_of}
use Rattle.tx_safety.specs.Answers.{checked_in}
use Rattle.src_bind.specs.Numbers.{rows}
use Rattle.src_link.specs.Slots.{safe_rows}
use Rattle.src_link.proofs.slots.safe_rows.Given as goal

abbrev pub invariant-loop-i : goal.invariant-loop-i
invariant-loop-i l = rows l.all.items ++ safe_rows (program_of (checked_in l.safe)) l.i (map unit_of (drop l.i l.units))
    ≡ safe_rows (program_of (checked_in l.safe)) 0 (map unit_of l.units)
