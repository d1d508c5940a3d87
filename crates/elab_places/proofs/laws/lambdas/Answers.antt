use Rattle.elab_places.proofs.Lambdas.{lambda_bodies_law, lambdas_law, no_lambdas_law}
use Rattle.elab_places.proofs.laws.lambdas.Goals as goal

pub returns-clause-bodies : goal.returns-clause-bodies
returns-clause-bodies c = lambda_bodies_law

pub returns-clause-leave : goal.returns-clause-leave
returns-clause-leave c = lambdas_law

pub returns-clause-none : goal.returns-clause-none
returns-clause-none c = no_lambdas_law
