use Rattle.elab_laws.proofs.Primary.{parentheses_law}
use Rattle.elab_laws.proofs.primary_laws.parentheses.Goals as goal

pub returns : goal.returns
returns c = parentheses_law
