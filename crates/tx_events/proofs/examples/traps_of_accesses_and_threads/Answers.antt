use Rattle.tx_events.proofs.WorkedWorlds.{traps_below, traps_above, traps_misaligned, reads_stack, traps_between, traps_beyond, traps_many}
use Rattle.tx_events.proofs.examples.traps_of_accesses_and_threads.Goals as goal

pub returns-clause-below : goal.returns-clause-below
returns-clause-below c = traps_below

pub returns-clause-above : goal.returns-clause-above
returns-clause-above c = traps_above

pub returns-clause-misaligned : goal.returns-clause-misaligned
returns-clause-misaligned c = traps_misaligned

pub returns-clause-stack : goal.returns-clause-stack
returns-clause-stack c = reads_stack

pub returns-clause-between : goal.returns-clause-between
returns-clause-between c = traps_between

pub returns-clause-beyond : goal.returns-clause-beyond
returns-clause-beyond c = traps_beyond

pub returns-clause-many : goal.returns-clause-many
returns-clause-many c = traps_many
