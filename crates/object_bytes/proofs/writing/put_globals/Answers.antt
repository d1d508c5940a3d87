use Rattle.tx_code.specs.Objects.{global_view}
use Rattle.object_bytes.specs.Counts.{global_has_counts}
use Rattle.object_bytes.proofs.Puts.{fits_at}
use Rattle.object_bytes.proofs.writing.put_globals.Goals as goal

pub put_global-requires : goal.put_global-requires
put_global-requires c = fits_at global_has_counts global_view _ _ c.global-item.result c.requires.each c.loop-global-test.true c.global-item.is
