use Rattle.elab_laws.proofs.Naming.{innermost_law}
use Rattle.elab_laws.proofs.naming_laws.innermost.Goals as goal

pub returns : goal.returns
returns c = innermost_law
