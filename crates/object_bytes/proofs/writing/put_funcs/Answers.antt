use Rattle.std.proofs.lemmas.Bool.{and_parts}
use Rattle.tx_code.specs.Objects.{func_view}
use Rattle.object_bytes.specs.Counts.{func_has_counts}
use Rattle.object_bytes.proofs.Puts.{fits_at, counts_if_some}
use Rattle.object_bytes.proofs.writing.put_funcs.Goals as goal

pub put_func-requires-clause-plain : goal.put_func-requires-clause-plain
put_func-requires-clause-plain c = counts_if_some _ (and_parts _ _
    (fits_at func_has_counts func_view _ _ c.func-item.result c.requires.each c.loop-func-test.true c.func-item.is)).0

pub put_func-requires-clause-safe : goal.put_func-requires-clause-safe
put_func-requires-clause-safe c = counts_if_some _ (and_parts _ _
    (fits_at func_has_counts func_view _ _ c.func-item.result c.requires.each c.loop-func-test.true c.func-item.is)).1
