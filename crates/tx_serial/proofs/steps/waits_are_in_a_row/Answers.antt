use Rattle.std.proofs.Common.{[], refl}
use Rattle.tx_serial.specs.Turn.{first_machine}
use Rattle.tx_serial.proofs.SoundKept.{start_sound}
use Rattle.tx_serial.proofs.IdleWaits.{start_rests}
use Rattle.tx_serial.proofs.WaitsInARow.{waits_counted, none_counted}
use Rattle.tx_serial.proofs.steps.waits_are_in_a_row.Goals as goal

pub returns : goal.returns
returns g c = λ p memory input main slots t word least small reached free going.
    waits_counted g.A.Actor.is_reached g.A.Actor.thread g.met.A.Actor.laws p small slots (first_machine memory input main) []
    (start_sound g.A.Actor.is_reached g.A.Actor.thread g.met.A.Actor.laws p small memory input main reached free)
    (start_rests g.A.Actor.is_reached g.A.Actor.thread g.met.A.Actor.laws p small memory input main)
    (none_counted g.A.Actor.is_reached g.A.Actor.thread g.met.A.Actor.laws p small (first_machine memory input main) refl)
    going t word least
