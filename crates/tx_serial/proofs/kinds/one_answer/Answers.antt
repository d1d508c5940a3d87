use Rattle.tx_serial.proofs.PolicyAnswers.{turn_same}
use Rattle.tx_serial.proofs.kinds.one_answer.Goals as goal

pub returns : goal.returns
returns g c = λ p answer other t m same. turn_same g.A.Actor.thread p answer other t m same
