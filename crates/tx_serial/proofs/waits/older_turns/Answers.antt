use Rattle.tx_serial.specs.Turn.{first_machine}
use Rattle.tx_serial.specs.Run.{not_begun}
use Rattle.tx_serial.proofs.SoundKept.{start_sound}
use Rattle.tx_serial.proofs.OlderRuns.{older_each}
use Rattle.tx_serial.proofs.waits.older_turns.Goals as goal

pub returns : goal.returns
returns g c = λ p memory input main slots small reached free rule.
    older_each g.A.Actor.is_reached g.A.Actor.thread g.met.A.Actor.laws p small slots (not_begun (first_machine memory input main))
    (start_sound g.A.Actor.is_reached g.A.Actor.thread g.met.A.Actor.laws p small memory input main reached free) rule
