use Rattle.tx_serial.proofs.RecordedPicks.{again}
use Rattle.tx_serial.proofs.runs.equal_replay.Goals as goal

pub returns : goal.returns
returns g c = λ p bound first answer slots others result. again g.A.Actor.thread p bound first answer slots others result
