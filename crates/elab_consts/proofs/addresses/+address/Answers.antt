use Rattle.std.proofs.Common.{◌∙◌}
use Rattle.elab_rules.specs.cpp_tree.Arena.{trees_of, tree_at}
use Rattle.elab_consts.proofs.Kids.{address_none}
use Rattle.elab_consts.proofs.addresses.+address.Goals as goal

pub returns-else-kids-eq1 : goal.returns-else-kids-eq1
returns-else-kids-eq1 t c = address_none (trees_of c.args.nodes.now.items) (tree_at (trees_of c.args.nodes.now.items) c.args.id) c.in_ok-kids.kids.now
    (c.node_at.ensures.kind ∙ c.in-Retype.is) c.in_ok-kids.ensures.kids c.if-kids-eq1.false
