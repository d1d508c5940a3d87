use Rattle.src_mean.proofs.Worked.{cancelled_block_runs, cancelled_block_fits}
use Rattle.src_mean.proofs.examples.cancelled_block.Goals as goal

pub returns : goal.returns
returns c = record { runs = cancelled_block_runs; well_formed = cancelled_block_fits }
