use Rattle.std.proofs.Common.{length, ◌+◌, ◌-◌}
use Rattle.cpp_lex.proofs.QuotedEnds.{ReadTo}
use Rattle.cpp_lex.proofs.quoted.str_end.Given as goal

abbrev pub invariant-inner : goal.invariant-inner
invariant-inner l = ReadTo l.text (l.from + 1) l.at

abbrev pub decreases-inner : goal.decreases-inner
decreases-inner l = length l.text - l.at
