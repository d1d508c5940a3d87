use Rattle.src_mean.proofs.Worked.{return_zero_runs, return_zero_fits}
use Rattle.src_mean.proofs.examples.return_zero.Goals as goal

pub returns : goal.returns
returns c = record { runs = return_zero_runs; well_formed = return_zero_fits }
