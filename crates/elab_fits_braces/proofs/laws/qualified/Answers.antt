use Rattle.elab_fits_braces.proofs.Pliable.{defaults_qualified}
use Rattle.elab_fits_braces.proofs.Requalified.{qualified_build}
use Rattle.elab_fits_braces.proofs.laws.qualified.Goals as goal

pub returns-clause-qualified : goal.returns-clause-qualified
returns-clause-qualified c = qualified_build

pub returns-clause-defaults : goal.returns-clause-defaults
returns-clause-defaults c = defaults_qualified
