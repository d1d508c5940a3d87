use Rattle.cpp_ast.proofs.NodeTrees.{all_below, no_nodes, with_node}
use Rattle.cpp_ast.proofs.laws.kids.Goals as goal

pub returns : goal.returns
returns c = record { below = all_below; no_nodes = no_nodes; forest = with_node }
