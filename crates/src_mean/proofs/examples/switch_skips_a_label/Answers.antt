use Rattle.src_mean.proofs.Worked.{switch_skips_a_label_runs, switch_skips_a_label_fits}
use Rattle.src_mean.proofs.examples.switch_skips_a_label.Goals as goal

pub returns : goal.returns
returns c = record { runs = switch_skips_a_label_runs; well_formed = switch_skips_a_label_fits }
