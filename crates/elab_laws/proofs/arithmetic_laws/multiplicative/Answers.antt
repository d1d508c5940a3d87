use Rattle.elab_laws.proofs.Arithmetic.{multiplicative_law}
use Rattle.elab_laws.proofs.arithmetic_laws.multiplicative.Goals as goal

pub returns : goal.returns
returns c = multiplicative_law
