use Rattle.src_mean.proofs.Blocks.{thread_begins, main_begins, stays_settled, follows_blocks}
use Rattle.src_mean.proofs.laws.blocks.Goals as goal

pub returns : goal.returns
returns c = record { thread = thread_begins; main = main_begins; goes_on = stays_settled; comes = follows_blocks }
