use Rattle.src_mean.proofs.Blocks.{leaves_once}
use Rattle.src_mean.proofs.laws.left_once.Goals as goal

pub returns : goal.returns
returns c = leaves_once
