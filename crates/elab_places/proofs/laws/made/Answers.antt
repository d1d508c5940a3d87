use Rattle.elab_places.proofs.MemberRounds.{constructors_bodies_law, destructors_bodies_law, defaults_bodies_law, implied_bodies_law}
use Rattle.elab_places.proofs.Rounds.{lambdas_bodies_law, statements_bodies_law, functions_bodies_law}
use Rattle.elab_places.proofs.laws.made.Goals as goal

pub returns-clause-lambdas : goal.returns-clause-lambdas
returns-clause-lambdas c = lambdas_bodies_law

pub returns-clause-statements : goal.returns-clause-statements
returns-clause-statements c = statements_bodies_law

pub returns-clause-functions : goal.returns-clause-functions
returns-clause-functions c = functions_bodies_law

pub returns-clause-constructors : goal.returns-clause-constructors
returns-clause-constructors c = constructors_bodies_law

pub returns-clause-destructors : goal.returns-clause-destructors
returns-clause-destructors c = destructors_bodies_law

pub returns-clause-defaults : goal.returns-clause-defaults
returns-clause-defaults c = defaults_bodies_law

pub returns-clause-implied : goal.returns-clause-implied
returns-clause-implied c = implied_bodies_law
