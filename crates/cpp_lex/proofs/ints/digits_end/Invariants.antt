use Rattle.std.proofs.Common.{length, ◌-◌, ◌≤◌}
use Rattle.cpp_lex.specs.Ints.{Digits}
use Rattle.cpp_lex.proofs.ints.digits_end.Given as goal

abbrev pub invariant-digits : goal.invariant-digits
invariant-digits l = record { digits : Digits l.base l.text l.from l.at; inside : l.at ≤ length l.text }

abbrev pub decreases-digits : goal.decreases-digits
decreases-digits l = length l.text - l.at
