use Rattle.src_mean.proofs.Worked.{conditional_temporary_runs, conditional_temporary_fits}
use Rattle.src_mean.proofs.examples.conditional_temporary.Goals as goal

pub returns : goal.returns
returns c = record { runs = conditional_temporary_runs; well_formed = conditional_temporary_fits }
