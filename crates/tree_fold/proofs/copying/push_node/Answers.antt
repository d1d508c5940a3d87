use Rattle.std.proofs.Common.{rules}
use Rattle.cpp_tree.proofs.Shown.{pushed}
use Rattle.tree_forests.proofs.Behind.{forest_node}
use Rattle.tree_fold.proofs.copying.push_node.Goals as goal

pub returns-clause-tree : goal.returns-clause-tree
returns-clause-tree c = pushed c.args.nodes.now.items c.push.new.self.items c.args.node record { 0 = c.in-Ok.id } c.in_ok-push.ensures.items (search rules)

pub returns-clause-own : goal.returns-clause-own
returns-clause-own c = λ start h. forest_node start c.args.nodes.now.items c.push.new.self.items c.args.node record { 0 = c.in-Ok.id } h
    c.in_ok-push.ensures.items (search rules)
