use Rattle.elab_stmt.proofs.Small.{for_made}
use Rattle.elab_stmt.proofs.nodes.for_node.Goals as goal

pub returns : goal.returns
returns c = for_made _ _ _ _ _ _ _ c.args.at _ _ _ c.requires c.in_ok-repeated.ensures c.in_ok-keep.ensures c.block.ensures
