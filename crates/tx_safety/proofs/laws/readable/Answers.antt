use Rattle.tx_safety.proofs.Programs.{readable}
use Rattle.tx_safety.proofs.laws.readable.Goals as goal

pub returns : goal.returns
returns c = readable
