use Rattle.tx_events.proofs.WorkedWorlds.{commits}
use Rattle.tx_events.proofs.examples.a_block_commits.Goals as goal

pub returns : goal.returns
returns c = commits
