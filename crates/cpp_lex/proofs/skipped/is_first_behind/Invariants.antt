use Rattle.std.proofs.Common.{IsTrue, ◌↔◌}
use Rattle.cpp_lex.specs.Skipped.{IsFirstOnLine}
use Rattle.cpp_lex.proofs.skipped.is_first_behind.Given as goal

abbrev pub invariant-loop-at : goal.invariant-loop-at
invariant-loop-at l = IsTrue l.first ↔ IsFirstOnLine l.text l.at
