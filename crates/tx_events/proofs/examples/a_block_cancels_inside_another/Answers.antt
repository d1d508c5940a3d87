use Rattle.tx_events.proofs.WorkedWorlds.{cancels}
use Rattle.tx_events.proofs.examples.a_block_cancels_inside_another.Goals as goal

pub returns : goal.returns
returns c = cancels
