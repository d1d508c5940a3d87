use Rattle.tx_serial.proofs.KindConditions.{idle_exact}
use Rattle.tx_serial.proofs.kinds.idle_else.Goals as goal

pub returns : goal.returns
returns g c = λ p answer t m never. idle_exact g.A.Actor.thread p answer t m never
