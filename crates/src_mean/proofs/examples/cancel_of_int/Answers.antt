use Rattle.src_mean.proofs.Worked.{cancel_of_int_runs, cancel_of_int_fits}
use Rattle.src_mean.proofs.examples.cancel_of_int.Goals as goal

pub returns : goal.returns
returns c = record { runs = cancel_of_int_runs; well_formed = cancel_of_int_fits }
