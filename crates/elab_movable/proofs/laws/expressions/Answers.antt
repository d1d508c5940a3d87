use Rattle.elab_movable.proofs.Defaults.{expressions_move}
use Rattle.elab_movable.proofs.laws.expressions.Goals as goal

pub returns : goal.returns
returns c = record { expressions = expressions_move }
