use Rattle.std.proofs.Common.{◌∙◌, sym}
use Rattle.elab_rules.specs.cpp_tree.Arena.{trees_of, tree_at}
use Rattle.elab_consts.proofs.Kids.{global_none}
use Rattle.elab_consts.proofs.constants.global_in.Goals as goal

pub returns-else-is_empty : goal.returns-else-is_empty
returns-else-is_empty c = global_none (trees_of c.args.nodes.now.items)
    (tree_at (trees_of c.args.nodes.now.items) c.args.id) c.in-Global.global c.in_ok-kids.kids.now
    (c.node_at.ensures.kind ∙ c.in-Global.is) c.in_ok-kids.ensures.kids (sym c.is_empty.ensures ∙ c.if-is_empty.false)
