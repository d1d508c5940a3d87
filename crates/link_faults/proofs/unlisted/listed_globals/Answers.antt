use Rattle.std.proofs.Common.{◌≡◌, ◌<◌, map, length, arith, true}
use Rattle.std.proofs.lemmas.List.{length-map}
use borrow.Author.Tests.{ltb-true}
use Rattle.tx_code.specs.Objects.{bytes_of, global_view}
use Rattle.tx_code.specs.WellFormed.{global_fits}
use Rattle.link_faults.proofs.NameRanks.{passes_at}
use Rattle.link_faults.proofs.ListedEntries.{global_symbol}
use Rattle.link_faults.proofs.unlisted.listed_globals.Goals as goal

pub mark-requires : goal.mark-requires
mark-requires c =
    let n = length (map bytes_of c.args.object.now.names.items) in
    let fits : global_fits n (global_view c.global-item.result) ≡ true =
    passes_at (global_fits n) global_view c.deref-global-items.result.now c.loop-global.global-index c.global-item.result
    (rw c.deref-global-items.ensures.value c.requires.globals) c.loop-global-test.true c.global-item.is in
    let within : c.global-item.result.symbol < n = ltb-true _ _ (global_symbol n (global_view c.global-item.result) fits) in
    omega (arith, within, length-map c.args.object.now.names.items bytes_of, c.loop-global.invariant.1)
