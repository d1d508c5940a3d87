use Rattle.symbolic_instances.proofs.Steps.{value_seen, exit_seen, outcome_seen}
use Rattle.symbolic_instances.proofs.laws.answers_are_kept.Goals as goal

pub returns-clause-values : goal.returns-clause-values
returns-clause-values c = λ p f r x answers others rest bounded kept n ws v k s h. value_seen p f r x answers others rest bounded kept n ws v k s h

pub returns-clause-exits : goal.returns-clause-exits
returns-clause-exits c = λ p f r x answers others rest bounded kept n ws exit k s h. exit_seen p f r x answers others rest bounded kept n ws exit k s h

pub returns-clause-steps : goal.returns-clause-steps
returns-clause-steps c = λ p f r x answers others rest bounded kept n o s h. outcome_seen p f r x answers others rest bounded kept n o s h
