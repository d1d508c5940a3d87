use Rattle.elab_leaving.proofs.Implied.{implied_same}
use Rattle.elab_leaving.proofs.laws.implicit_members.Goals as goal

pub returns : goal.returns
returns c = λ st e. implied_same st e
