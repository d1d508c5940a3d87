use Rattle.lowered_frames.proofs.Trees.{tree_is}
use Rattle.lowered_frames.proofs.laws.trees_have_kids.Goals as goal

pub returns : goal.returns
returns c = λ g o id n e. tree_is g o id n e
