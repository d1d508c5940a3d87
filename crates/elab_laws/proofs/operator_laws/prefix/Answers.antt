use Rattle.elab_laws.proofs.Unary.{prefix_law}
use Rattle.elab_laws.proofs.operator_laws.prefix.Goals as goal

pub returns : goal.returns
returns c = prefix_law
