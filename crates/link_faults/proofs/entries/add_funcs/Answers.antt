use Rattle.std.proofs.Common.{map, length}
use Rattle.std.proofs.lemmas.List.{length-map}
use Rattle.tx_code.specs.Objects.{bytes_of, func_view}
use Rattle.tx_code.specs.WellFormed.{func_fits}
use Rattle.link_faults.proofs.NameRanks.{passes_at}
use Rattle.link_faults.proofs.entries.add_funcs.Goals as goal

pub ranked_func-requires-clause-fits : goal.ranked_func-requires-clause-fits
ranked_func-requires-clause-fits c =
    rw (← length-map c.args.object.now.names.items bytes_of)
    (passes_at (func_fits c.args.object.now.version (length
    (map bytes_of c.args.object.now.names.items))) func_view c.deref-func-items.result.now c.loop-func.func-index c.func-item.result
    (rw c.deref-func-items.ensures.value c.requires.known.object.funcs) c.loop-func-test.true c.func-item.is)
