use Rattle.tx_serial.proofs.KindConditions.{kind_exact}
use Rattle.tx_serial.proofs.kinds.kind_exactly.Goals as goal

pub returns : goal.returns
returns g c = λ p answer t m l kind goes holds other. kind_exact g.A.Actor.thread p answer t m l kind goes holds other
