use Rattle.elab_fits_expressions.proofs.Closures.{closures_stand}
use Rattle.elab_fits_expressions.proofs.laws.closures.Goals as goal

pub returns : goal.returns
returns c = record { closures = closures_stand }
