use Rattle.elab_sound_types.proofs.Bodies.{lambdas_law, none_keeps}
use Rattle.elab_sound_types.proofs.laws.lambdas.Goals as goal

pub returns-clause-lambdas : goal.returns-clause-lambdas
returns-clause-lambdas c = lambdas_law

pub returns-clause-none : goal.returns-clause-none
returns-clause-none c = none_keeps
