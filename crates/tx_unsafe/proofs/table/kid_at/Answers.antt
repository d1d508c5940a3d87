use Rattle.std.proofs.Common.{refl}
use Rattle.tx_unsafe.proofs.Nodes.{kid_read, kid_missing}
use Rattle.tx_unsafe.proofs.table.kid_at.Goals as goal

pub returns-then-i-ids : goal.returns-then-i-ids
returns-then-i-ids c =
    kid_read c.args.nodes.now c.args.ids.now c.args.i _ c.index-nodes-id.result c.requires.ordered c.requires.below c.if-i-ids.true c.index-nodes-id.is

pub returns-else-i-ids : goal.returns-else-i-ids
returns-else-i-ids c = kid_missing c.args.nodes.now c.args.ids.now c.args.i c.if-i-ids.false
