use Rattle.tx_serial.proofs.OrderReplays.{turns_shown}
use Rattle.tx_serial.proofs.order.order_replays.Goals as goal

pub returns : goal.returns
returns g c =
    λ p memory input main slots small reached free. turns_shown g.A.Actor.is_reached g.A.Actor.thread p g.met.A.Actor.laws small memory input main slots
    reached free
