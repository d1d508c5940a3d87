use Rattle.std.proofs.Common.{◌≡◌, drop}
use Rattle.tree_nodes.specs.Order.{ordered_from}
use Rattle.tree_nodes.proofs.order.are_kids_lower.Given as goal

abbrev pub invariant-loop-i : goal.invariant-loop-i
invariant-loop-i l = ordered_from 0 l.nodes ≡ ordered_from l.i (drop l.i l.nodes)
