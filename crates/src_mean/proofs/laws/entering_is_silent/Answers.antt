use Rattle.src_mean.proofs.Blocks.{node_entered}
use Rattle.src_mean.proofs.laws.entering_is_silent.Goals as goal

pub returns : goal.returns
returns c = node_entered
