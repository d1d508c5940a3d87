use Rattle.tree_fold.proofs.Values.{choice_kept}
use Rattle.tree_fold.proofs.laws.same_choices.Goals as goal

pub returns : goal.returns
returns c = λ volatile p h k way t cat place test chosen other w e. choice_kept volatile p h k way t cat place test chosen other w e
