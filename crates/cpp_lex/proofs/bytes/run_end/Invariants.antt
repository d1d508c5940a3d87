use Rattle.std.proofs.Common.{length, ◌-◌}
use Rattle.cpp_lex.specs.Bytes.{Run}
use Rattle.cpp_lex.specs.Readings.{in_class}
use Rattle.cpp_lex.proofs.bytes.run_end.Given as goal

abbrev pub invariant-run : goal.invariant-run
invariant-run l = Run (in_class l.class) l.text l.from l.at

abbrev pub decreases-run : goal.decreases-run
decreases-run l = length l.text - l.at
