use Rattle.src_mean.proofs.Worked.{thin_path_overflow_runs, thin_path_overflow_fits}
use Rattle.src_mean.proofs.examples.thin_path_overflow.Goals as goal

pub returns : goal.returns
returns c = record { runs = thin_path_overflow_runs; well_formed = thin_path_overflow_fits }
