use Rattle.tree_fold.proofs.Values.{value_kept}
use Rattle.tree_fold.proofs.laws.same_values.Goals as goal

pub returns : goal.returns
returns c = λ volatile p h k tree w e. value_kept volatile p h k tree w e
