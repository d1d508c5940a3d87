use Rattle.tx_events.specs.World.{first_world}
use Rattle.tx_serial.specs.Turn.{first_machine}
use Rattle.tx_serial.proofs.WorldKept.{turns_kept, start_shown}
use Rattle.tx_serial.proofs.SoundKept.{turns_sound, start_sound}
use Rattle.tx_serial.proofs.IdleWaits.{turns_rest, start_rests}
use Rattle.tx_serial.proofs.order.stays_sound.Goals as goal

pub returns-clause-sound : goal.returns-clause-sound
returns-clause-sound g c = λ p memory input main slots small reached free.
    turns_sound g.A.Actor.is_reached g.A.Actor.thread g.met.A.Actor.laws p small slots (first_machine memory input main)
    (start_sound g.A.Actor.is_reached g.A.Actor.thread g.met.A.Actor.laws p small memory input main reached free)

pub returns-clause-apart : goal.returns-clause-apart
returns-clause-apart g c = λ p memory input main slots goes.
    ((turns_kept g.A.Actor.thread p (first_world memory input main) slots (first_machine memory input main)
    (start_shown g.A.Actor.thread p memory input main)).2.going goes).apart

pub returns-clause-alone : goal.returns-clause-alone
returns-clause-alone g c = λ p memory input main slots goes.
    ((turns_kept g.A.Actor.thread p (first_world memory input main) slots (first_machine memory input main)
    (start_shown g.A.Actor.thread p memory input main)).2.going goes).alone

pub returns-clause-rests : goal.returns-clause-rests
returns-clause-rests g c = λ p memory input main slots small reached free.
    turns_rest g.A.Actor.is_reached g.A.Actor.thread g.met.A.Actor.laws p small slots (first_machine memory input main)
    (start_sound g.A.Actor.is_reached g.A.Actor.thread g.met.A.Actor.laws p small memory input main reached free)
    (start_rests g.A.Actor.is_reached g.A.Actor.thread g.met.A.Actor.laws p small memory input main)
