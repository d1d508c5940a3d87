use Rattle.elab_fits_bodies.proofs.Members.{default_implied, copy_implied, destructor_implied}
use Rattle.elab_fits_bodies.proofs.laws.implied.Goals as goal

pub returns-clause-defaults : goal.returns-clause-defaults
returns-clause-defaults c = default_implied

pub returns-clause-copies : goal.returns-clause-copies
returns-clause-copies c = copy_implied

pub returns-clause-destructors : goal.returns-clause-destructors
returns-clause-destructors c = destructor_implied
