use Rattle.elab_laws.proofs.Tests.{negation_law}
use Rattle.elab_laws.proofs.truth_laws.negation.Goals as goal

pub returns : goal.returns
returns c = negation_law
