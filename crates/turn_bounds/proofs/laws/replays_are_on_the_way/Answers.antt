use Rattle.std.proofs.Common.{refl}
use Rattle.tx_events.specs.World.{first_world}
use Rattle.turn_bounds.proofs.OnTheWay.{on_the_way}
use Rattle.turn_bounds.proofs.laws.replays_are_on_the_way.Goals as goal

pub returns : goal.returns
returns g c = λ p memory input main n out end ends order v h.
    on_the_way g.A.Actor.thread p out end order (first_world memory input main) v h ends.order ends.world ends.replays n refl (λ k. refl) ends.spawns_nothing
    ends.within ends.out_is ends.end_is
