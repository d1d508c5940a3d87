use Rattle.fold_events.proofs.Program.{fold_keeps}
use Rattle.fold_events.proofs.laws.same_events.Goals as goal

pub returns : goal.returns
returns c = λ p l well. fold_keeps p l well
