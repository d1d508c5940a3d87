use Rattle.std.proofs.Common.{◌+◌, ◌-◌, ◌≤◌}
use Rattle.cpp_lex.specs.Bytes.{is_digit, Run}
use Rattle.cpp_lex.proofs.quoted.octal_digits_end.Given as goal

abbrev pub invariant-digits : goal.invariant-digits
invariant-digits l = record { run : Run (is_digit 8) l.text (l.from + 1) l.at; three : l.at ≤ l.from + 4 }

abbrev pub decreases-digits : goal.decreases-digits
decreases-digits l = l.from + 4 - l.at
