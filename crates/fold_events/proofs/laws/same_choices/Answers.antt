use Rattle.fold_events.proofs.Bound.{choices_kept}
use Rattle.fold_events.proofs.laws.same_choices.Goals as goal

pub returns : goal.returns
returns d = λ p c well are. choices_kept p c well are
