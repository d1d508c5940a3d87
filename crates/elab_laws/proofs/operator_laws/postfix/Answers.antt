use Rattle.elab_laws.proofs.Unary.{postfix_law}
use Rattle.elab_laws.proofs.operator_laws.postfix.Goals as goal

pub returns : goal.returns
returns c = postfix_law
