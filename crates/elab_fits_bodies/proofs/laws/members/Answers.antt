use Rattle.elab_fits_bodies.proofs.Bodies.{constructor_fits, base_put_off, members_put_off, destructor_fits}
use Rattle.elab_fits_bodies.proofs.laws.members.Goals as goal

pub returns-clause-constructors : goal.returns-clause-constructors
returns-clause-constructors c = constructor_fits

pub returns-clause-bases : goal.returns-clause-bases
returns-clause-bases c = base_put_off

pub returns-clause-members : goal.returns-clause-members
returns-clause-members c = members_put_off

pub returns-clause-destructors : goal.returns-clause-destructors
returns-clause-destructors c = destructor_fits
