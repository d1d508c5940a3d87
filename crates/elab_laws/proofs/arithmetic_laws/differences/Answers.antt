use Rattle.elab_laws.proofs.Arithmetic.{differences_law}
use Rattle.elab_laws.proofs.arithmetic_laws.differences.Goals as goal

pub returns : goal.returns
returns c = differences_law
