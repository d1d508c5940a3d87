use Rattle.tx_serial.proofs.SameBirth.{same_birth}
use Rattle.tx_serial.proofs.order.birth_kept.Goals as goal

pub returns : goal.returns
returns g c = λ p answer t u m. same_birth g.A.Actor.thread p answer t m u
