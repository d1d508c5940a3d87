use Rattle.std.proofs.Common.{refl}
use Rattle.tx_events.specs.World.{first_world}
use Rattle.turn_bounds.proofs.Started.{none_spawned}
use Rattle.turn_bounds.proofs.laws.replays_that_start_no_thread.Goals as goal

pub returns : goal.returns
returns g c = λ p two memory input main order v h last. none_spawned g.A.Actor.thread p two order (first_world memory input main) v h refl last
