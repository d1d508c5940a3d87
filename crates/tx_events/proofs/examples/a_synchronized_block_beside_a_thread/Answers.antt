use Rattle.tx_events.proofs.WorkedWorlds.{shares, waits_block, waits_lock, waits_nested, waits_join, waits_ended}
use Rattle.tx_events.proofs.examples.a_synchronized_block_beside_a_thread.Goals as goal

pub returns-clause-leads : goal.returns-clause-leads
returns-clause-leads c = shares

pub returns-clause-block : goal.returns-clause-block
returns-clause-block c = waits_block

pub returns-clause-lock : goal.returns-clause-lock
returns-clause-lock c = waits_lock

pub returns-clause-nested : goal.returns-clause-nested
returns-clause-nested c = waits_nested

pub returns-clause-join : goal.returns-clause-join
returns-clause-join c = waits_join

pub returns-clause-ended : goal.returns-clause-ended
returns-clause-ended c = waits_ended
