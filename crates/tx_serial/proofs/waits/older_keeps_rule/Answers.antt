use Rattle.tx_serial.proofs.WaitCircles.{older_answers}
use Rattle.tx_serial.proofs.waits.older_keeps_rule.Goals as goal

pub returns : goal.returns
returns g c = λ p m t clash asked. older_answers clash
