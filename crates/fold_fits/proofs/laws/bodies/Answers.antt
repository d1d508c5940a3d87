use Rattle.fold_fits.proofs.Programs.{bodies_fit}
use Rattle.fold_fits.proofs.laws.bodies.Goals as goal

pub returns : goal.returns
returns c = bodies_fit
