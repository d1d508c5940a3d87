use Rattle.elab_bodies.proofs.Keeping.{functions_law, constructors_law, destructors_law, defaults_law, implied_law}
use Rattle.elab_bodies.proofs.Implicits.{completed_law}
use Rattle.elab_bodies.proofs.laws.kept.Goals as goal

pub returns-clause-functions : goal.returns-clause-functions
returns-clause-functions c = functions_law

pub returns-clause-constructors : goal.returns-clause-constructors
returns-clause-constructors c = constructors_law

pub returns-clause-destructors : goal.returns-clause-destructors
returns-clause-destructors c = destructors_law

pub returns-clause-defaults : goal.returns-clause-defaults
returns-clause-defaults c = defaults_law

pub returns-clause-completed : goal.returns-clause-completed
returns-clause-completed c = completed_law

pub returns-clause-implied : goal.returns-clause-implied
returns-clause-implied c = implied_law
