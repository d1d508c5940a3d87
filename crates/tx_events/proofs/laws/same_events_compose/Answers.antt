use Rattle.tx_events.proofs.Composition.{same_events_compose}
use Rattle.tx_events.proofs.laws.same_events_compose.Goals as goal

pub returns : goal.returns
returns g c = λ s r q f h. same_events_compose g.A.Actor.thread g.B.Actor.thread g.C.Actor.thread s r q f h
