use Rattle.tx_serial.proofs.RecordedPicks.{run_counted}
use Rattle.tx_serial.proofs.runs.turns_counted.Goals as goal

pub returns : goal.returns
returns g c = λ p bound first slots result. run_counted g.A.Actor.thread p bound first slots result
