use Rattle.tx_events.proofs.WorkedWorlds.{aborts, fails}
use Rattle.tx_events.proofs.examples.a_block_aborts.Goals as goal

pub returns-clause-noexcept : goal.returns-clause-noexcept
returns-clause-noexcept c = aborts

pub returns-clause-cancel : goal.returns-clause-cancel
returns-clause-cancel c = fails
