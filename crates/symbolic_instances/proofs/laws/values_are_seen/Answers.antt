use Rattle.symbolic_instances.specs.Instances.{no_answers}
use Rattle.symbolic_instances.proofs.Steps.{none_kept, value_seen}
use Rattle.symbolic_instances.proofs.laws.values_are_seen.Goals as goal

pub returns-clause-at_once : goal.returns-clause-at_once
returns-clause-at_once c = λ p f r x answers rest bounded ws v k s h.
    value_seen p f r x answers no_answers rest bounded (none_kept p f r answers) 0 ws v k s h

pub returns-clause-after_steps : goal.returns-clause-after_steps
returns-clause-after_steps c = λ p f r x answers rest bounded n ws v k s h.
    value_seen p f r x answers no_answers rest bounded (none_kept p f r answers) n ws v k s h
