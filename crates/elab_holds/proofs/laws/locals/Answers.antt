use Rattle.elab_holds.proofs.Locals.{stay_law, grow_law, entered_law, objects_law, parameters_law, lambdas_law, placed_law, declared_law}
use Rattle.elab_holds.proofs.laws.locals.Goals as goal

pub returns-clause-stay : goal.returns-clause-stay
returns-clause-stay c = stay_law

pub returns-clause-functions : goal.returns-clause-functions
returns-clause-functions c = entered_law

pub returns-clause-objects : goal.returns-clause-objects
returns-clause-objects c = objects_law

pub returns-clause-parameters : goal.returns-clause-parameters
returns-clause-parameters c = parameters_law

pub returns-clause-lambdas : goal.returns-clause-lambdas
returns-clause-lambdas c = lambdas_law

pub returns-clause-variables : goal.returns-clause-variables
returns-clause-variables c = placed_law

pub returns-clause-declared : goal.returns-clause-declared
returns-clause-declared c = declared_law

pub returns-clause-grow : goal.returns-clause-grow
returns-clause-grow c = grow_law
