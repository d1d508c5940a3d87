use Rattle.src_mean.proofs.Worked.{inner_cancel_runs, inner_cancel_fits}
use Rattle.src_mean.proofs.examples.inner_cancel.Goals as goal

pub returns : goal.returns
returns c = record { runs = inner_cancel_runs; well_formed = inner_cancel_fits }
