use Rattle.tree_nodes.proofs.Ordered.{ordered_is}
use Rattle.tree_nodes.proofs.order.is_ordered.Goals as goal

pub returns : goal.returns
returns c = ordered_is c.are_kids_lower.result c.args.nodes.now c.are_kids_lower.ensures
