use Rattle.src_mean.proofs.Worked.{destruction_runs, destruction_fits}
use Rattle.src_mean.proofs.examples.destruction.Goals as goal

pub returns : goal.returns
returns c = record { runs = destruction_runs; well_formed = destruction_fits }
