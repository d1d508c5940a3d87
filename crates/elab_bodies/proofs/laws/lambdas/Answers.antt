use Rattle.elab_bodies.proofs.Closures.{lambdas_law, statements_law}
use Rattle.elab_bodies.proofs.laws.lambdas.Goals as goal

pub returns-clause-lambdas : goal.returns-clause-lambdas
returns-clause-lambdas c = lambdas_law

pub returns-clause-statements : goal.returns-clause-statements
returns-clause-statements c = statements_law
