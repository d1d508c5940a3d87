use Rattle.tx_serial.proofs.TurnSteps as lemmas
use Rattle.tx_serial.proofs.steps.ran_executes.Goals as goal

pub returns : goal.returns
returns g c = λ p answer t m l goes. lemmas.ran_executes g.A.Actor.thread p answer t m l goes
