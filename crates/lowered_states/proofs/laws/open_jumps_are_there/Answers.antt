use Rattle.std.proofs.Common.{[]}
use Rattle.unwind_lower.specs.States.{here}
use Rattle.lowered_states.proofs.Aiming.{claimed_there, claimed_once}
use Rattle.lowered_states.proofs.laws.open_jumps_are_there.Goals as goal

pub returns-clause-once : goal.returns-clause-once
returns-clause-once c = λ s h index. claimed_once s index h

pub returns-clause-there : goal.returns-clause-there
unfolding here
returns-clause-there c = λ s h index k. claimed_there [] s index h k

pub returns-clause-nowhere : goal.returns-clause-nowhere
returns-clause-nowhere c = λ s h index k. h.jumps index k
