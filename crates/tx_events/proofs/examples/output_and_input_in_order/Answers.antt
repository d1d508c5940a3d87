use Rattle.tx_events.proofs.WorkedWorlds.{talks}
use Rattle.tx_events.proofs.examples.output_and_input_in_order.Goals as goal

pub returns : goal.returns
returns c = talks
