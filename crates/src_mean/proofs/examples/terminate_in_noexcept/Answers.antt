use Rattle.src_mean.proofs.Worked.{terminate_in_noexcept_runs, terminate_in_noexcept_fits}
use Rattle.src_mean.proofs.examples.terminate_in_noexcept.Goals as goal

pub returns : goal.returns
returns c = record { runs = terminate_in_noexcept_runs; well_formed = terminate_in_noexcept_fits }
