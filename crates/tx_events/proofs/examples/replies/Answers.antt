use Rattle.tx_events.proofs.WorkedWorlds.{hears_outside, hears_inside}
use Rattle.tx_events.proofs.examples.replies.Goals as goal

pub returns-clause-outside : goal.returns-clause-outside
returns-clause-outside c = hears_outside

pub returns-clause-inside : goal.returns-clause-inside
returns-clause-inside c = hears_inside
