use Rattle.elab_forms.proofs.Taken.{read_same}
use Rattle.elab_forms.proofs.drops.is_read_when_dropped.Goals as goal

pub returns : goal.returns
returns c = read_same _ _ _ _ c.node_at-node.ensures.kind c.node_at-node.ensures.cat c.is_read_by.ensures
