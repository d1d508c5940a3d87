use Rattle.elab_types.proofs.SyntaxTrees.{node_is}
use Rattle.elab_types.proofs.syntax.node_at.Goals as goal

pub returns-clause-node : goal.returns-clause-node
returns-clause-node c = node_is c.args.nodes.now c.args.id c.node.result.now c.node.ensures.node c.node.ensures.lower
