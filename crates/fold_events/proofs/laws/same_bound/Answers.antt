use Rattle.fold_events.proofs.Bound.{bound_keeps}
use Rattle.fold_events.proofs.laws.same_bound.Goals as goal

pub returns : goal.returns
returns c = λ g h well same choices. bound_keeps g h well same choices
