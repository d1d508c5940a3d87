use Rattle.symbolic_source.proofs.Replaced.{outcome_replaced, outcome_placed}
use Rattle.symbolic_source.proofs.laws.variables_are_replaced.Goals as goal

pub returns-clause-there : goal.returns-clause-there
returns-clause-there c = λ p f r x rest o s h. outcome_replaced p f r x rest o s h

pub returns-clause-back : goal.returns-clause-back
returns-clause-back c = λ p f r x rest o s h. outcome_placed p f r x rest o s h
