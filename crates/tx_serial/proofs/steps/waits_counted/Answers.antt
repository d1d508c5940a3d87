use Rattle.tx_serial.proofs.TurnSteps as lemmas
use Rattle.tx_serial.proofs.steps.waits_counted.Goals as goal

pub returns-clause-own : goal.returns-clause-own
returns-clause-own g c = λ p answer t m l goes. lemmas.waits_counted g.A.Actor.thread p answer t m l goes

pub returns-clause-others : goal.returns-clause-others
returns-clause-others g c = λ p answer t u m l goes. lemmas.waits_stay g.A.Actor.thread p answer t m l goes u
