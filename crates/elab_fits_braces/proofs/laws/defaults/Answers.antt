use Rattle.elab_fits_braces.proofs.Defaults.{defaults_build}
use Rattle.elab_fits_braces.proofs.Moved.{moved_fit}
use Rattle.elab_fits_braces.proofs.Staying.{defaults_stay}
use Rattle.elab_fits_braces.proofs.laws.defaults.Goals as goal

pub returns-clause-moved : goal.returns-clause-moved
returns-clause-moved c = moved_fit

pub returns-clause-defaults : goal.returns-clause-defaults
returns-clause-defaults c = defaults_build

pub returns-clause-stay : goal.returns-clause-stay
returns-clause-stay c = defaults_stay
