use Rattle.elab_leaving.proofs.Outside.{outside_same}
use Rattle.elab_leaving.proofs.laws.members_outside.Goals as goal

pub returns : goal.returns
returns c = λ lams q s x st at kind first kids e. outside_same lams q s x st at kind first kids e
