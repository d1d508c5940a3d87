use Rattle.tx_serial.proofs.WorkedRuns.{crossed_is}
use Rattle.tx_serial.proofs.examples.crossed_words.Goals as goal

pub returns : goal.returns
returns c = crossed_is
