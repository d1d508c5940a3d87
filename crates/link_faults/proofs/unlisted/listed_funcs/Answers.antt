use Rattle.std.proofs.Common.{◌≡◌, ◌<◌, map, length, arith, true}
use Rattle.std.proofs.lemmas.List.{length-map}
use borrow.Author.Tests.{ltb-true}
use Rattle.tx_code.specs.Objects.{bytes_of, func_view}
use Rattle.tx_code.specs.WellFormed.{func_fits}
use Rattle.link_faults.proofs.NameRanks.{passes_at}
use Rattle.link_faults.proofs.ListedEntries.{func_symbol}
use Rattle.link_faults.proofs.unlisted.listed_funcs.Goals as goal

pub mark-requires : goal.mark-requires
mark-requires c =
    let n = length (map bytes_of c.args.object.now.names.items) in
    let fits : func_fits c.args.object.now.version n (func_view c.func-item.result) ≡ true =
    passes_at (func_fits c.args.object.now.version n) func_view c.deref-func-items.result.now c.loop-func.func-index c.func-item.result
    (rw c.deref-func-items.ensures.value c.requires.funcs) c.loop-func-test.true c.func-item.is in
    let within : c.func-item.result.symbol < n = ltb-true _ _ (func_symbol c.args.object.now.version n (func_view c.func-item.result) fits) in
    omega (arith, within, length-map c.args.object.now.names.items bytes_of, c.loop-func.invariant.1)
