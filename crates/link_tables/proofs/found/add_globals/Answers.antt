use Rattle.std.proofs.Common.{◌≡◌, ◌&&◌, true, map, length, arith}
use Rattle.std.proofs.lemmas.List.{length-map}
use borrow.Author.Tests.{ltb-true}
use Rattle.tx_code.specs.Objects.{bytes_of, global_view, object_view}
use Rattle.tx_code.specs.WellFormed.{global_fits, same}
use Rattle.tx_code.specs.Linked.{is_defined_global, is_string}
use Rattle.link_faults.proofs.NameRanks.{passes_at}
use Rattle.link_faults.proofs.ListedEntries.{global_symbol}
use Rattle.link_tables.specs.Homes.{home_view}
use Rattle.link_tables.specs.Found.{global_row, row_of_global}
use Rattle.link_tables.proofs.HomeSteps.{filtered_step}
use Rattle.link_tables.proofs.found.add_globals.Goals as goal

pub add_global-requires-clause-named : goal.add_global-requires-clause-named
add_global-requires-clause-named c =
    let o = c.args.home.object.now in
    let n = length (map bytes_of o.names.items) in
    let fits : global_fits n (global_view c.global-item.result) ≡ true =
    passes_at (global_fits n) global_view c.deref-global-items.result.now c.loop-global.global-index c.global-item.result
    (rw c.deref-global-items.ensures.value c.requires.known.object.globals) c.loop-global-test.true c.global-item.is in
    let within = ltb-true _ _ (global_symbol n (global_view c.global-item.result) fits) in
    omega (arith, within, length-map o.names.items bytes_of)

pub loop-global-preserved : goal.loop-global-preserved
loop-global-preserved c =
    let o = object_view c.args.home.object.now in
    filtered_step global_view (row_of_global (map bytes_of c.args.all.now) (home_view c.args.home))
    (λ g. is_defined_global g && same c.args.literals (is_string o g)) c.args.home.object.now.globals.items c.loop-global.global-index c.global-item.result
    (map global_row c.args.found.now.items) _ _ (rw c.deref-global-items.ensures.value at c.loop-global-test.true)
    (rw c.deref-global-items.ensures.value at c.global-item.is) c.loop-global.invariant c.in_ok-add_global.ensures
