use Rattle.tx_serial.proofs.TurnSteps.{others_stay}
use Rattle.tx_serial.proofs.steps.other_threads_stay.Goals as goal

pub returns : goal.returns
returns g c = λ p answer t u m l goes. others_stay g.A.Actor.thread p answer t m l goes u
