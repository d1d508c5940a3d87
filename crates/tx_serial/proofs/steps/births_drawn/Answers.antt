use Rattle.tx_serial.proofs.TurnSteps as lemmas
use Rattle.tx_serial.proofs.steps.births_drawn.Goals as goal

pub returns-clause-next : goal.returns-clause-next
returns-clause-next g c = λ p answer t m l goes. lemmas.births_drawn g.A.Actor.thread p answer t m l goes

pub returns-clause-own : goal.returns-clause-own
returns-clause-own g c = λ p answer t m l goes. lemmas.draws_own g.A.Actor.thread p answer t m l goes
