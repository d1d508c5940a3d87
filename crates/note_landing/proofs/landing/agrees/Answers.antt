use Rattle.std.proofs.Common.{arith}
use Rattle.note_landing.proofs.landing.agrees.Goals as goal

pub returns-in_ok-made-in-Some-clause-is : goal.returns-in_ok-made-in-Some-clause-is
returns-in_ok-made-in-Some-clause-is c told m a = record { there = omega arith; low = omega arith; terms = _; makes = c.in_ok-made-in-Some.ensures.is told m a }
