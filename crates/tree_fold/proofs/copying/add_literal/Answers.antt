use Rattle.tree_forests.proofs.Behind.{forest_first}
use Rattle.tree_fold.proofs.copying.add_literal.Goals as goal

pub returns-clause-own : goal.returns-clause-own
returns-clause-own c = c.push_node.ensures.own c.args.nodes.now.items (forest_first c.args.nodes.now.items c.new.result.items c.new.ensures.items)
