use Rattle.elab_laws.proofs.Arithmetic.{sums_law}
use Rattle.elab_laws.proofs.arithmetic_laws.sums.Goals as goal

pub returns : goal.returns
returns c = sums_law
