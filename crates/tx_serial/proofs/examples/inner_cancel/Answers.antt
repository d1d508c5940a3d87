use Rattle.tx_serial.proofs.WorkedRuns.{inner_cancelled_is}
use Rattle.tx_serial.proofs.examples.inner_cancel.Goals as goal

pub returns : goal.returns
returns c = inner_cancelled_is
