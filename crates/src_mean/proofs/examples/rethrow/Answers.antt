use Rattle.src_mean.proofs.Worked.{rethrow_runs, rethrow_fits}
use Rattle.src_mean.proofs.examples.rethrow.Goals as goal

pub returns : goal.returns
returns c = record { runs = rethrow_runs; well_formed = rethrow_fits }
