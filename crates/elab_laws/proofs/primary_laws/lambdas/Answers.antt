use Rattle.elab_laws.proofs.Primary.{lambdas_law}
use Rattle.elab_laws.proofs.primary_laws.lambdas.Goals as goal

pub returns : goal.returns
returns c = lambdas_law
