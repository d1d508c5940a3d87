use Rattle.src_mean.proofs.Worked.{commit_on_throw_runs, commit_on_throw_fits}
use Rattle.src_mean.proofs.examples.commit_on_throw.Goals as goal

pub returns : goal.returns
returns c = record { runs = commit_on_throw_runs; well_formed = commit_on_throw_fits }
