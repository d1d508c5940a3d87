use Rattle.std.proofs.Common.{rules}
use Rattle.cpp_tree.proofs.Shown.{pushed}
use Rattle.cpp_tree.proofs.arena.add_node.Goals as goal

pub returns-clause-tree : goal.returns-clause-tree
returns-clause-tree c = pushed c.args.nodes.now.items c.push.new.self.items c.args.node record { 0 = c.in-Ok.id } c.in_ok-push.ensures.items (search rules)
