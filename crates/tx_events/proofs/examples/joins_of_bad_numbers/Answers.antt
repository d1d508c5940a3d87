use Rattle.tx_events.proofs.WorkedWorlds.{joins_first, joins_negative, joins_unstarted, joins_own}
use Rattle.tx_events.proofs.examples.joins_of_bad_numbers.Goals as goal

pub returns-clause-first : goal.returns-clause-first
returns-clause-first c = joins_first

pub returns-clause-negative : goal.returns-clause-negative
returns-clause-negative c = joins_negative

pub returns-clause-unstarted : goal.returns-clause-unstarted
returns-clause-unstarted c = joins_unstarted

pub returns-clause-own : goal.returns-clause-own
returns-clause-own c = joins_own
