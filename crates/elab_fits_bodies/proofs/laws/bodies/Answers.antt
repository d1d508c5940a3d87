use Rattle.elab_fits_bodies.proofs.Written.{function_body_fits, constructor_body_fits, destructor_body_fits, lambda_body_fits}
use Rattle.elab_fits_bodies.proofs.laws.bodies.Goals as goal

pub returns-clause-functions : goal.returns-clause-functions
returns-clause-functions c = function_body_fits

pub returns-clause-constructors : goal.returns-clause-constructors
returns-clause-constructors c = constructor_body_fits

pub returns-clause-destructors : goal.returns-clause-destructors
returns-clause-destructors c = destructor_body_fits

pub returns-clause-lambdas : goal.returns-clause-lambdas
returns-clause-lambdas c = lambda_body_fits
