use Rattle.elab_laws.proofs.Assigning.{conditionals_law}
use Rattle.elab_laws.proofs.choice_laws.conditionals.Goals as goal

pub returns : goal.returns
returns c = conditionals_law
