use Rattle.std.proofs.Common.{◌≡◌, true, map, length, arith}
use Rattle.std.proofs.lemmas.List.{length-map}
use borrow.Author.Tests.{ltb-true}
use Rattle.tx_code.specs.Objects.{bytes_of, func_view}
use Rattle.tx_code.specs.WellFormed.{func_fits}
use Rattle.link_faults.proofs.NameRanks.{passes_at}
use Rattle.link_faults.proofs.ListedEntries.{func_symbol}
use Rattle.link_tables.proofs.found.add_funcs.Goals as goal

pub symbol_in-symbol-requires-clause-named : goal.symbol_in-symbol-requires-clause-named
symbol_in-symbol-requires-clause-named c =
    let o = c.args.home.object.now in
    let n = length (map bytes_of o.names.items) in
    let fits : func_fits o.version n (func_view c.func-item.result) ≡ true =
    passes_at (func_fits o.version n) func_view c.deref-func-items.result.now c.loop-func.func-index c.func-item.result
    (rw c.deref-func-items.ensures.value c.requires.known.object.funcs) c.loop-func-test.true c.func-item.is in
    let within = ltb-true _ _ (func_symbol o.version n (func_view c.func-item.result) fits) in
    omega (arith, within, length-map o.names.items bytes_of)
