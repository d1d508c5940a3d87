use Rattle.elab_laws.proofs.Arithmetic.{bitwise_law}
use Rattle.elab_laws.proofs.arithmetic_laws.bitwise.Goals as goal

pub returns : goal.returns
returns c = bitwise_law
