use Rattle.src_mean.proofs.Worked.{destruction_of_parts_runs, destruction_of_parts_fits}
use Rattle.src_mean.proofs.examples.destruction_of_parts.Goals as goal

pub returns : goal.returns
returns c = record { runs = destruction_of_parts_runs; well_formed = destruction_of_parts_fits }
