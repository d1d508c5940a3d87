use Rattle.elab_frame_items.proofs.Growing.{lambdas_law, defaults_grow, grow_law, shown_law}
use Rattle.elab_frame_items.proofs.laws.frames.Goals as goal

pub returns-clause-lambdas : goal.returns-clause-lambdas
returns-clause-lambdas c = lambdas_law

pub returns-clause-grow : goal.returns-clause-grow
returns-clause-grow c = grow_law

pub returns-clause-shown : goal.returns-clause-shown
returns-clause-shown c = shown_law

pub returns-clause-defaults : goal.returns-clause-defaults
returns-clause-defaults c = defaults_grow
