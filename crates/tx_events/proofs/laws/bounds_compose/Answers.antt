use Rattle.tx_events.proofs.Composition.{bounds_compose}
use Rattle.tx_events.proofs.laws.bounds_compose.Goals as goal

pub returns : goal.returns
returns g c = λ s r q k d k' d' same f h. bounds_compose g.A.Actor.thread g.B.Actor.thread g.C.Actor.thread s r q k d k' d' same f h
