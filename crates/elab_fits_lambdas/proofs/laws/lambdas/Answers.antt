use Rattle.elab_fits_lambdas.proofs.Entered.{bodies_begin}
use Rattle.elab_fits_lambdas.proofs.Lambdas.{lambdas_are_good}
use Rattle.elab_fits_lambdas.proofs.laws.lambdas.Goals as goal

pub returns-clause-begin : goal.returns-clause-begin
returns-clause-begin c = bodies_begin

pub returns-clause-good : goal.returns-clause-good
returns-clause-good c = lambdas_are_good
