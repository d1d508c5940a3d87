use Rattle.std.proofs.Common.{◌≡◌, ◌<◌, ◌^◌, drop}
use Rattle.std.specs.Prelude.{fold}
use Rattle.cpp_lex.specs.Numbers.{number, with_byte}
use Rattle.cpp_lex.proofs.ints.number.Given as goal

abbrev pub invariant-loop-b : goal.invariant-loop-b
invariant-loop-b l = record { rest : fold (with_byte l.base) l.total (drop l.b-index l.bytes) ≡ number l.base l.bytes; small : l.total < 2 ^ 64 }
