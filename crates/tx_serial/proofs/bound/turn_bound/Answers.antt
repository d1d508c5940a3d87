use Rattle.std.proofs.Common.{ℕ, ◌≤◌, ◌+◌, ◌*◌, arith}
use Rattle.tx_serial.proofs.TurnBound.{ends_alone, never_waits}
use Rattle.tx_serial.proofs.bound.turn_bound.Goals as goal

pub returns-clause-ends : goal.returns-clause-ends
returns-clause-ends g c = λ p memory input main instructions accesses order v e slots small reached free run most end many.
    ends_alone g.A.Actor.is_reached g.A.Actor.thread g.met.A.Actor.laws p small memory input main reached free instructions accesses order v e run most end
    slots many

sum : (n z : ℕ) → 66 * n + 64 ≤ z → (64 * n + 64) + 2 * n ≤ z
sum n z h = omega (arith, h)

pub returns-clause-units : goal.returns-clause-units
returns-clause-units g c = λ p memory input main n order v e slots small reached free run most end many.
    ends_alone g.A.Actor.is_reached g.A.Actor.thread g.met.A.Actor.laws p small memory input main reached free (64 * n + 64) n order v e run most end slots
    (sum n _ many)

pub returns-clause-never_waits : goal.returns-clause-never_waits
returns-clause-never_waits g c = λ p memory input main instructions accesses order v e slots small reached free run most end answer t.
    never_waits g.A.Actor.is_reached g.A.Actor.thread g.met.A.Actor.laws p small memory input main reached free instructions accesses order v e run most end
    slots answer t
