use Rattle.elab_laws.proofs.Tests.{comparisons_law}
use Rattle.elab_laws.proofs.truth_laws.comparisons.Goals as goal

pub returns : goal.returns
returns c = comparisons_law
