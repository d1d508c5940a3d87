use Rattle.elab_laws.proofs.Arithmetic.{shifts_law}
use Rattle.elab_laws.proofs.arithmetic_laws.shifts.Goals as goal

pub returns : goal.returns
returns c = shifts_law
