use Rattle.src_mean.proofs.Worked.{terminate_runs, terminate_fits}
use Rattle.src_mean.proofs.examples.terminate.Goals as goal

pub returns : goal.returns
returns c = record { runs = terminate_runs; well_formed = terminate_fits }
