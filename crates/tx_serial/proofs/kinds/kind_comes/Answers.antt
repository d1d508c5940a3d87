use Rattle.tx_serial.proofs.SoundKept.{kind_of_turn}
use Rattle.tx_serial.proofs.kinds.kind_comes.Goals as goal

pub returns : goal.returns
returns g c = λ p answer t m l small sound goes. kind_of_turn g.A.Actor.is_reached g.A.Actor.thread g.met.A.Actor.laws p small answer t m l sound goes
