use Rattle.std.proofs.Common.{sym}
use Rattle.cpp_syntax.proofs.LastNumber.{last_get}
use Rattle.cpp_syntax.proofs.arena.last_or_none.Goals as goal

pub returns-in-Some : goal.returns-in-Some
returns-in-Some c = last_get c.args.numbers.now c.in-Some.number.now (sym c.in-Some.ensures.value)
