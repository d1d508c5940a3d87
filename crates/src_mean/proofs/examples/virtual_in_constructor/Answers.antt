use Rattle.src_mean.proofs.Worked.{virtual_in_constructor_runs, virtual_in_constructor_fits}
use Rattle.src_mean.proofs.examples.virtual_in_constructor.Goals as goal

pub returns : goal.returns
returns c = record { runs = virtual_in_constructor_runs; well_formed = virtual_in_constructor_fits }
