use Rattle.src_mean.proofs.Worked.{argument_object_runs, argument_object_fits}
use Rattle.src_mean.proofs.examples.argument_object.Goals as goal

pub returns : goal.returns
returns c = record { runs = argument_object_runs; well_formed = argument_object_fits }
