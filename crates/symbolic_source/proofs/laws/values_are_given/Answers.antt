use Rattle.symbolic_source.proofs.Given.{given_shown}
use Rattle.symbolic_source.proofs.laws.values_are_given.Goals as goal

pub returns : goal.returns
returns c = λ p f x answers rest small bounded right ws v k. given_shown p f x answers rest small bounded right ws v k
