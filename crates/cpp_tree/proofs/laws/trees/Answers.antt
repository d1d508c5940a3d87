use Rattle.cpp_tree.proofs.Shown.{many_trees, trees_grow, tree_of_node, shows_tree}
use Rattle.cpp_tree.proofs.laws.trees.Goals as goal

pub returns : goal.returns
returns c = record { many = many_trees; grows = trees_grow; is = tree_of_node; shown = shows_tree }
