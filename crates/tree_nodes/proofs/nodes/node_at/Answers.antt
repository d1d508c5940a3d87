use Rattle.cpp_tree.proofs.Shown.{tree_of_node}
use Rattle.tree_nodes.proofs.Below.{kids_below}
use Rattle.tree_nodes.proofs.nodes.node_at.Goals as goal

pub returns-clause-tree : goal.returns-clause-tree
returns-clause-tree c = tree_of_node c.args.unit.now.nodes.items c.args.id c.tnode.result.now c.requires.ordered c.tnode.ensures

pub returns-clause-below : goal.returns-clause-below
returns-clause-below c = kids_below c.args.unit.now.nodes.items c.args.id.0 c.tnode.result.now c.requires.ordered c.requires.within c.tnode.ensures
