use Rattle.src_mean.proofs.Worked.{lambda_capture_runs, lambda_capture_fits}
use Rattle.src_mean.proofs.examples.lambda_capture.Goals as goal

pub returns : goal.returns
returns c = record { runs = lambda_capture_runs; well_formed = lambda_capture_fits }
