use Rattle.elab_fits_objects.proofs.Casting.{casts_stand, functionals_stand}
use Rattle.elab_fits_objects.proofs.laws.casts.Goals as goal

pub returns-clause-casts : goal.returns-clause-casts
returns-clause-casts c = casts_stand

pub returns-clause-functionals : goal.returns-clause-functionals
returns-clause-functionals c = functionals_stand
