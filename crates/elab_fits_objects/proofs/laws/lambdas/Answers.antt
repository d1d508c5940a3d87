use Rattle.elab_fits_objects.proofs.Lambdas.{captures_build}
use Rattle.elab_fits_objects.proofs.laws.lambdas.Goals as goal

pub returns : goal.returns
returns c = record { captures = captures_build }
