use Rattle.src_mean.proofs.Worked.{third_element_throws_runs, third_element_throws_fits}
use Rattle.src_mean.proofs.examples.third_element_throws.Goals as goal

pub returns : goal.returns
returns c = record { runs = third_element_throws_runs; well_formed = third_element_throws_fits }
