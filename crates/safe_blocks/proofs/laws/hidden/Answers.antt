use Rattle.safe_blocks.proofs.Kept.{blocks_hidden}
use Rattle.safe_blocks.proofs.laws.hidden.Goals as goal

pub returns : goal.returns
returns c = blocks_hidden
