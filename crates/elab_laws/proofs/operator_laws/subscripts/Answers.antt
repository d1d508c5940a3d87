use Rattle.elab_laws.proofs.Unary.{subscripts_law}
use Rattle.elab_laws.proofs.operator_laws.subscripts.Goals as goal

pub returns : goal.returns
returns c = subscripts_law
