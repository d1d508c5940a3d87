use Rattle.tx_events.proofs.WorkedWorlds.{globals}
use Rattle.tx_events.proofs.examples.first_globals.Goals as goal

pub returns : goal.returns
returns c = globals
