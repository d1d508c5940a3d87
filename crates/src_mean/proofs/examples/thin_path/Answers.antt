use Rattle.src_mean.proofs.Worked.{thin_path_runs, thin_path_fits}
use Rattle.src_mean.proofs.examples.thin_path.Goals as goal

pub returns : goal.returns
returns c = record { runs = thin_path_runs; well_formed = thin_path_fits }
