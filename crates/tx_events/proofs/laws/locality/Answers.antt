use Rattle.tx_events.proofs.Locality.{runs_alike}
use Rattle.tx_events.proofs.laws.locality.Goals as goal

pub returns : goal.returns
returns g c = λ p s m n alone. runs_alike g.A.Actor.thread p s m n alone
