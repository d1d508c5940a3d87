use Rattle.std.proofs.Common.{◌≡◌, true, map, length, arith}
use Rattle.std.proofs.lemmas.List.{length-map}
use borrow.Author.Tests.{ltb-true}
use Rattle.tx_code.specs.Objects.{bytes_of, class_view}
use Rattle.tx_code.specs.WellFormed.{class_fits}
use Rattle.link_faults.proofs.NameRanks.{passes_at}
use Rattle.link_tables.proofs.FoundRows.{class_named}
use Rattle.link_tables.proofs.found.add_classes.Goals as goal

pub symbol_in-symbol-requires-clause-named : goal.symbol_in-symbol-requires-clause-named
symbol_in-symbol-requires-clause-named c =
    let o = c.args.home.object.now in
    let n = length (map bytes_of o.names.items) in
    let fits : class_fits n (class_view c.class-item.result) ≡ true =
    passes_at (class_fits n) class_view c.deref-class-items.result.now c.loop-class.class-index c.class-item.result
    (rw c.deref-class-items.ensures.value c.requires.known.object.classes) c.loop-class-test.true c.class-item.is in
    let within = ltb-true _ _ (class_named n (class_view c.class-item.result) fits) in
    omega (arith, within, length-map o.names.items bytes_of)
