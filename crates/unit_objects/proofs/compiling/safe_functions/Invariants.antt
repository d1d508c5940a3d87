use Rattle.std.proofs.Common.{◌≡◌}
use Rattle.cpp_tree.specs.Units.{program_of}
use Rattle.tx_safety.specs.Answers.{checked_in}
use Rattle.unit_objects.specs.Units.{safe_first}
use Rattle.unit_objects.proofs.compiling.safe_functions.Given as goal

abbrev pub invariant-loop-index : goal.invariant-loop-index
invariant-loop-index l = l.marks.items ≡ safe_first (program_of (checked_in l.safe)) l.unit l.index
