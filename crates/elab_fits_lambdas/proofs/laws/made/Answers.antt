use Rattle.elab_fits_lambdas.proofs.Closures.{one_at_hand}
use Rattle.elab_fits_lambdas.proofs.Hand.{all_at_hand}
use Rattle.elab_fits_lambdas.proofs.Made.{lambdas_are_made}
use Rattle.elab_fits_lambdas.proofs.laws.made.Goals as goal

pub returns-clause-made : goal.returns-clause-made
returns-clause-made c = lambdas_are_made

pub returns-clause-hand : goal.returns-clause-hand
returns-clause-hand c = one_at_hand

pub returns-clause-all : goal.returns-clause-all
returns-clause-all c = all_at_hand
