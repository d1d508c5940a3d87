use Rattle.elab_laws.proofs.Unary.{addresses_law}
use Rattle.elab_laws.proofs.operator_laws.addresses.Goals as goal

pub returns : goal.returns
returns c = addresses_law
