use Rattle.elab_laws.proofs.Tests.{logical_law}
use Rattle.elab_laws.proofs.truth_laws.logical.Goals as goal

pub returns : goal.returns
returns c = logical_law
