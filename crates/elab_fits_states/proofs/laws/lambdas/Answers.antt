use Rattle.elab_fits_states.proofs.Lambdas.{no_lambdas_keep, lambdas_keep}
use Rattle.elab_fits_states.proofs.laws.lambdas.Goals as goal

pub returns-clause-none : goal.returns-clause-none
returns-clause-none c = no_lambdas_keep

pub returns-clause-all : goal.returns-clause-all
returns-clause-all c = lambdas_keep
