use Rattle.elab_entry.proofs.Endings.{end_value}
use Rattle.elab_entry.proofs.ends.keep_value_end.Goals as goal

pub returns : goal.returns
returns c = end_value _ _ _ _ _ _ _ _ c.args.at c.requires c.in_ok-zero.ensures c.in_ok-end.ensures c.in_ok-keep.ensures
