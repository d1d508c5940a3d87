use Rattle.elab_places.proofs.Bodies.{function_bodies_law}
use Rattle.elab_places.proofs.Constructors.{constructor_bodies_law, destructor_bodies_law}
use Rattle.elab_places.proofs.Defaults.{defaults_law}
use Rattle.elab_places.proofs.Implied.{implied_bodies_law}
use Rattle.elab_places.proofs.laws.bodies.Goals as goal

pub returns-clause-functions : goal.returns-clause-functions
returns-clause-functions c = function_bodies_law

pub returns-clause-constructors : goal.returns-clause-constructors
returns-clause-constructors c = constructor_bodies_law

pub returns-clause-destructors : goal.returns-clause-destructors
returns-clause-destructors c = destructor_bodies_law

pub returns-clause-implied : goal.returns-clause-implied
returns-clause-implied c = implied_bodies_law

pub returns-clause-defaults : goal.returns-clause-defaults
returns-clause-defaults c = defaults_law
