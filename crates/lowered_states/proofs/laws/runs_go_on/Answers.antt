use Rattle.lowered_states.proofs.Running.{reaches_then, apart_on}
use Rattle.lowered_states.proofs.laws.runs_go_on.Goals as goal

pub returns-clause-reached : goal.returns-clause-reached
returns-clause-reached c = λ g from mid to p q. reaches_then g from mid p q

pub returns-clause-apart : goal.returns-clause-apart
returns-clause-apart c = λ g from to a r item s q. apart_on g from to a r item s q
