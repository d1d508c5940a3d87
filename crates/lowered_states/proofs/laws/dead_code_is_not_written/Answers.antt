use Rattle.lowered_states.proofs.Running.{none_written}
use Rattle.lowered_states.proofs.Aiming.{none_more}
use Rattle.lowered_states.proofs.laws.dead_code_is_not_written.Goals as goal

pub returns-clause-asleep : goal.returns-clause-asleep
returns-clause-asleep c = λ g item s h a sleeps dead. none_written g item s h a sleeps dead

pub returns-clause-count : goal.returns-clause-count
returns-clause-count c = λ g item s h a w dead. none_more g item s h a w dead
