use Rattle.tx_events.specs.World.{first_world}
use Rattle.tx_serial.specs.Turn.{first_machine}
use Rattle.tx_serial.proofs.OrderReplays.{turns_shown}
use Rattle.tx_serial.proofs.RecordedPicks.{run_replayed}
use Rattle.tx_serial.proofs.runs.run_replays.Goals as goal

pub returns : goal.returns
returns g c = λ p bound memory input main slots result small reached free run.
    run_replayed g.A.Actor.thread p (first_world memory input main) bound (first_machine memory input main) slots result run
    (turns_shown g.A.Actor.is_reached g.A.Actor.thread p g.met.A.Actor.laws small memory input main slots reached free)
