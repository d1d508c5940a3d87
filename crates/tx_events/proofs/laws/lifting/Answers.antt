use Rattle.tx_events.proofs.Lifting.{starts_lift}
use Rattle.tx_events.proofs.laws.lifting.Goals as goal

pub returns : goal.returns
returns g c =
    λ p memory input main main' order v same kids few h. starts_lift g.A.Actor.thread g.B.Actor.thread main main' p kids same few memory input order v h
