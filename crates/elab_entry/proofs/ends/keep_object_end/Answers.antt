use Rattle.elab_entry.proofs.Endings.{end_two}
use Rattle.elab_entry.proofs.ends.keep_object_end.Goals as goal

pub returns : goal.returns
returns c = end_two _ _ _ _ _ _ _ _ _ _ c.requires c.in_ok-zeroed.ensures c.in_ok-end.ensures c.in_ok-keep.ensures c.in_ok-keep-2.ensures
