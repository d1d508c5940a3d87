use Rattle.src_mean.proofs.Worked.{return_through_scopes_runs, return_through_scopes_fits}
use Rattle.src_mean.proofs.examples.return_through_scopes.Goals as goal

pub returns : goal.returns
returns c = record { runs = return_through_scopes_runs; well_formed = return_through_scopes_fits }
