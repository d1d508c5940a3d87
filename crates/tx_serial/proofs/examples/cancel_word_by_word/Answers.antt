use Rattle.tx_serial.proofs.WorkedRuns.{cancelled_is}
use Rattle.tx_serial.proofs.examples.cancel_word_by_word.Goals as goal

pub returns : goal.returns
returns c = cancelled_is
