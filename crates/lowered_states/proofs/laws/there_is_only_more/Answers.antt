use Rattle.lowered_states.proofs.Running.{run_step}
use Rattle.lowered_states.proofs.laws.there_is_only_more.Goals as goal

pub returns : goal.returns
returns c = λ g from to h a r. (run_step g from h a r).kept
