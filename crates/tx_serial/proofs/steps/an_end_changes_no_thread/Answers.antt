use Rattle.tx_serial.proofs.TurnSteps as lemmas
use Rattle.tx_serial.proofs.steps.an_end_changes_no_thread.Goals as goal

pub returns : goal.returns
returns g c = λ p answer t m l e goes. lemmas.end_stays g.A.Actor.thread p answer t m l goes e
