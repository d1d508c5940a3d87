use Rattle.elab_fits_forms.proofs.Casts.{sizes_stand}
use Rattle.elab_fits_forms.proofs.ClassCasts.{casts_stand, functionals_stand}
use Rattle.elab_fits_forms.proofs.ObjectThrows.{throws_stand}
use Rattle.elab_fits_forms.proofs.Throws.{value_throws}
use Rattle.elab_fits_forms.proofs.laws.casts.Goals as goal

pub returns-clause-casts : goal.returns-clause-casts
returns-clause-casts c = casts_stand

pub returns-clause-functionals : goal.returns-clause-functionals
returns-clause-functionals c = functionals_stand

pub returns-clause-sizes : goal.returns-clause-sizes
returns-clause-sizes c = sizes_stand

pub returns-clause-throws : goal.returns-clause-throws
returns-clause-throws c = value_throws

pub returns-clause-objects : goal.returns-clause-objects
returns-clause-objects c = throws_stand
