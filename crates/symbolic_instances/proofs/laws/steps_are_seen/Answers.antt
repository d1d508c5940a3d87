use Rattle.symbolic_instances.specs.Instances.{no_answers}
use Rattle.symbolic_instances.proofs.Steps.{none_kept, outcome_seen}
use Rattle.symbolic_instances.proofs.laws.steps_are_seen.Goals as goal

pub returns : goal.returns
returns c = λ p f r x answers rest bounded n o s h. outcome_seen p f r x answers no_answers rest bounded (none_kept p f r answers) n o s h
