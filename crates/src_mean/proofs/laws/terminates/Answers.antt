use Rattle.src_mean.proofs.Blocks.{terminates_at}
use Rattle.src_mean.proofs.laws.terminates.Goals as goal

pub returns : goal.returns
returns c = terminates_at
