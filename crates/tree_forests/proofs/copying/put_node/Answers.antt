use Rattle.std.proofs.Common.{refl}
use Rattle.tree_forests.proofs.Copied.{node_over}
use Rattle.tree_forests.proofs.copying.put_node.Goals as goal

pub returns : goal.returns
returns c old trees copied = node_over old c.args.nodes.now.items _ c.args.kids.items trees c.args.node.now _ _ copied refl refl c.in_ok-ty.ensures refl refl
    c.push_node.ensures
