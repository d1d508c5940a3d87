use Rattle.elab_laws.proofs.Unary.{indirection_law}
use Rattle.elab_laws.proofs.operator_laws.indirection.Goals as goal

pub returns : goal.returns
returns c = indirection_law
