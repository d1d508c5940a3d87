use Rattle.lowered_trees.proofs.Bodies.{is_tree}
use Rattle.lowered_trees.proofs.laws.nodes_are_trees.Goals as goal

pub returns : goal.returns
returns c = is_tree
