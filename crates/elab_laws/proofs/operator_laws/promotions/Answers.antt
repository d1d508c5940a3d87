use Rattle.elab_laws.proofs.Unary.{promotions_law}
use Rattle.elab_laws.proofs.operator_laws.promotions.Goals as goal

pub returns : goal.returns
returns c = promotions_law
