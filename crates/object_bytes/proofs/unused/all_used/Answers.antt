use Rattle.std.proofs.Common.{◌≡◌, nat_eq, ◌||◌, false, true, get_or, sym, arith}
use Rattle.std.specs.Option.{option_map}
use Rattle.std.specs.List.{list_any}
use Rattle.tx_code.specs.Objects.{bytes_of}
use Rattle.tx_code.specs.WellFormed.{is_source}
use Rattle.object_bytes.proofs.Positions.{dropped, all_dropped, used_more, used_all}
use Rattle.object_bytes.proofs.unused.all_used.Goals as goal

pub is_used-requires : goal.is_used-requires
is_used-requires c = rw c.deref.ensures.value (omega (arith, c.in_ok-marks.ensures.as_many, c.loop-i-test.true))

pub loop-i-preserved : goal.loop-i-preserved
loop-i-preserved c =
    let mark : get_or c.deref.result.now c.loop-i.i false ≡ list_any (nat_eq c.loop-i.i) c.args.used.now =
    rw c.deref.ensures.value (c.in_ok-marks.ensures.each c.loop-i.i c.loop-i-test.true) in
    let found : (get_or c.deref.result.now c.loop-i.i false || is_source (option_map bytes_of c.args.source.now) c.deref-in-loop-i.result.now) ≡ true =
    sym c.if-not-is_used.ensures in
    let used : (list_any (nat_eq c.loop-i.i) c.args.used.now || is_source (option_map bytes_of c.args.source.now) c.index-names-i.result.items) ≡ true =
    rw (mark, c.deref-in-loop-i.ensures.value) at found in
    used_more _ _ _ _ _ (bytes_of c.index-names-i.result) _ (dropped bytes_of _ _ _ c.loop-i-test.true c.index-names-i.is) used c.loop-i.invariant

pub returns : goal.returns
returns c = used_all _ _ _ _ _ (all_dropped bytes_of _ _ c.loop-i-test.false) c.loop-i.invariant
