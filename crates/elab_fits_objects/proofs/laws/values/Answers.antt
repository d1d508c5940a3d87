use Rattle.elab_fits_objects.proofs.Constructed.{constructed_builds}
use Rattle.elab_fits_objects.proofs.Items.{items_build}
use Rattle.elab_fits_objects.proofs.Nothing.{nothing_builds}
use Rattle.elab_fits_objects.proofs.Valued.{scalar_builds, exception_builds, values_build}
use Rattle.elab_fits_objects.proofs.laws.values.Goals as goal

pub returns-clause-nothing : goal.returns-clause-nothing
returns-clause-nothing c = nothing_builds

pub returns-clause-constructors : goal.returns-clause-constructors
returns-clause-constructors c = constructed_builds

pub returns-clause-scalars : goal.returns-clause-scalars
returns-clause-scalars c = scalar_builds

pub returns-clause-exceptions : goal.returns-clause-exceptions
returns-clause-exceptions c = exception_builds

pub returns-clause-values : goal.returns-clause-values
returns-clause-values c = values_build

pub returns-clause-items : goal.returns-clause-items
returns-clause-items c = items_build
