use Rattle.named_runs.proofs.EqualReplay.{same_run}
use Rattle.named_runs.proofs.laws.equal_replay.Goals as goal

pub returns : goal.returns
returns c = same_run
