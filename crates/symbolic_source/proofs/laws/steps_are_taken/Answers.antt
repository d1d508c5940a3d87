use Rattle.symbolic_source.proofs.Advance.{advance}
use Rattle.symbolic_source.proofs.laws.steps_are_taken.Goals as goal

pub returns : goal.returns
returns c = λ p f x answers rest small bounded right n o s h e. advance p f x answers rest small bounded right n o s h e
