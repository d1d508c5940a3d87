use Rattle.std.proofs.Common.{arith}
use Rattle.cpp_tree.proofs.Shown.{many_trees}
use Rattle.tree_tests.proofs.safety.add.Goals as goal

pub returns-clause-within : goal.returns-clause-within
returns-clause-within c = omega (arith, c.in_ok-id.ensures.tree.within, many_trees c.add_node.new.nodes.items)
