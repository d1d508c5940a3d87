use Rattle.elab_bodies.proofs.Making.{function_law, constructor_law, destructor_law, implied_law}
use Rattle.elab_bodies.proofs.laws.made.Goals as goal

pub returns-clause-functions : goal.returns-clause-functions
returns-clause-functions c = function_law

pub returns-clause-constructors : goal.returns-clause-constructors
returns-clause-constructors c = constructor_law

pub returns-clause-destructors : goal.returns-clause-destructors
returns-clause-destructors c = destructor_law

pub returns-clause-implied : goal.returns-clause-implied
returns-clause-implied c = implied_law
