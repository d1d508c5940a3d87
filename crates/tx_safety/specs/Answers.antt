-- What the check answers.
use Rattle.std.specs.Prelude.{◌≡◌, Result, Ok, Err}
use Rattle.cpp_tree.specs.declared.program.Program.{Program}
use Rattle.cpp_tree.specs.Units.{program_of}
use Rattle.tx_safety.specs.declared.safe_program.SafeProgram.{SafeProgram}
use Rattle.tx_safety.specs.declared.fault.SafetyFault.{SafetyFault}
use Rattle.tx_safety.specs.declared.fault.SafetyFault.TheVariants.{Unsafe, Memory}
use Rattle.tx_safety.specs.Safe.{IsSafe, FirstUnsafe}

-- the program that was checked
abbrev pub checked_in : SafeProgram → Program
checked_in s = s.program

-- the checked program exactly where it has no unsafe part, and else the first of these; want of memory is free
abbrev pub Checks : Program → Result SafeProgram SafetyFault → Type 0
Checks p (Ok s) = (checked_in s ≡ p) × IsSafe (program_of p)
Checks p (Err (Unsafe at reason)) = FirstUnsafe (program_of p) at reason
Checks p (Err Memory) = Unit {0}
