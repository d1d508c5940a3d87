use Rattle.tx_serial.proofs.WorkedRuns.{outer_cancelled_is}
use Rattle.tx_serial.proofs.examples.outer_cancel.Goals as goal

pub returns : goal.returns
returns c = outer_cancelled_is
