use Rattle.elab_leaving.proofs.Lambdas.{lambdas_lawful}
use Rattle.elab_leaving.proofs.Units.{lambdas_are}
use Rattle.elab_leaving.proofs.laws.lambdas.Goals as goal

pub returns-clause-are : goal.returns-clause-are
returns-clause-are c = lambdas_are

pub returns-clause-leave : goal.returns-clause-leave
returns-clause-leave c = lambdas_lawful
