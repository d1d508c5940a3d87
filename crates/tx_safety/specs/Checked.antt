-- What is known of a checked program.
use Rattle.std.specs.Prelude.{◌≡◌, ℕ, true, List, length, Option}
use Rattle.std.specs.Global.{Vec}
use Rattle.cpp_tree.specs.declared.program.Program.{Program}
use Rattle.cpp_tree.specs.Units.{program_of}
use Rattle.tx_unsafe.specs.Volatile.{has_volatile_part}
use Rattle.tx_safety.specs.Safe.{is_empty, program_findings}
use Rattle.tx_safety.specs.Marks.{AreUnitMarks}

-- it has no unsafe parts, and these are the marks of its functions
pub record IsChecked (p : Program) (all : List (Vec (Option ℕ))) : Type 0 where
  pub safe : is_empty (program_findings (program_of p)) ≡ true
  pub long : length all ≡ length p.units.items
  pub marks : AreUnitMarks (has_volatile_part (program_of p).classes) p.units.items all
