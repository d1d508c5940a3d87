use Rattle.std.proofs.Common.{length, refl}
use Rattle.std.proofs.lemmas.Option.{slice_get_read}
use Rattle.tree_forests.proofs.Copied.{tree_of_node}
use Rattle.tree_forests.proofs.copying.node_at.Goals as goal

pub returns : goal.returns
returns c = tree_of_node c.args.nodes.now c.args.id c.index-nodes-id.result
    (slice_get_read c.args.nodes.now (length c.args.nodes.now) c.args.id.0 c.index-nodes-id.result refl c.requires c.index-nodes-id.is)
