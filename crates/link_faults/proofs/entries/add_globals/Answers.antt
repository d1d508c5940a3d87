use Rattle.std.proofs.Common.{map, length}
use Rattle.std.proofs.lemmas.List.{length-map}
use Rattle.tx_code.specs.Objects.{bytes_of, global_view}
use Rattle.tx_code.specs.WellFormed.{global_fits}
use Rattle.link_faults.proofs.NameRanks.{passes_at}
use Rattle.link_faults.proofs.entries.add_globals.Goals as goal

pub ranked_global-requires-clause-fits : goal.ranked_global-requires-clause-fits
ranked_global-requires-clause-fits c =
    rw (← length-map c.args.object.now.names.items bytes_of)
    (passes_at
    (global_fits
    (length (map bytes_of c.args.object.now.names.items))) global_view c.deref-global-items.result.now c.loop-global.global-index c.global-item.result
    (rw c.deref-global-items.ensures.value c.requires.known.object.globals) c.loop-global-test.true c.global-item.is)
