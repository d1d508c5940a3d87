use Rattle.tx_serial.specs.Run.{turns_within}
use Rattle.tx_serial.proofs.NamedPickers.{can_pick, picks_by}
use Rattle.tx_serial.proofs.RecordedPicks.{has_run}
use Rattle.tx_serial.proofs.runs.named_pickers_run.Goals as goal

pub returns : goal.returns
returns g c = λ p bound first name answer. has_run g.A.Actor.thread p (picks_by name) answer (turns_within bound name) (can_pick bound name) first
