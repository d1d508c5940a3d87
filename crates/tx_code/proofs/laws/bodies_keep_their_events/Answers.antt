use Rattle.tx_code.proofs.OwnBodies.{own_same, own_within}
use Rattle.tx_code.proofs.laws.bodies_keep_their_events.Goals as goal

pub returns-clause-same : goal.returns-clause-same
returns-clause-same c = own_same

pub returns-clause-within : goal.returns-clause-within
returns-clause-within c = own_within
