use Rattle.elab_movable.proofs.Defaults.{copies_move, strings_move}
use Rattle.elab_movable.proofs.Lambdas.{lambdas_keep}
use Rattle.elab_movable.proofs.laws.values.Goals as goal

pub returns-clause-lambdas : goal.returns-clause-lambdas
returns-clause-lambdas c = lambdas_keep

pub returns-clause-copies : goal.returns-clause-copies
returns-clause-copies c = copies_move

pub returns-clause-strings : goal.returns-clause-strings
returns-clause-strings c = strings_move
