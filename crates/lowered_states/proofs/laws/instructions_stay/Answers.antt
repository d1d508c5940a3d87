use Rattle.unwind_lower.specs.States.{here}
use Rattle.lowered_states.specs.Kept.{unaimed}
use Rattle.lowered_states.proofs.Counting.{shown_longer}
use Rattle.lowered_states.proofs.Running.{run_step}
use Rattle.lowered_states.proofs.Aiming.{closed_stays, same_low}
use Rattle.lowered_states.proofs.laws.instructions_stay.Goals as goal

pub returns-clause-unclaimed : goal.returns-clause-unclaimed
unfolding here
returns-clause-unclaimed c = λ g from to h a r index l e. ((run_step g from h a r).stays index l e).0

pub returns-clause-still_open : goal.returns-clause-still_open
unfolding here
returns-clause-still_open c = λ g from to h a r index l k. ((run_step g from h a r).waits index l k).0

pub returns-clause-closed : goal.returns-clause-closed
unfolding here
returns-clause-closed c = λ g from to h a r index l e. closed_stays g from to h a r index l e

pub returns-clause-apart : goal.returns-clause-apart
unfolding here
returns-clause-apart c = λ from to k index l. same_low from to k index l

pub returns-clause-count : goal.returns-clause-count
unfolding here
returns-clause-count c = λ from to k. shown_longer unaimed from.body.code to.body.code k.lows
