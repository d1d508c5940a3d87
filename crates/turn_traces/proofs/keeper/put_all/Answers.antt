use Rattle.std.proofs.Common.{◌<◌, length, arith}
use Rattle.turn_traces.proofs.Keepers.{named_more}
use Rattle.turn_traces.proofs.keeper.put_all.Goals as goal

pub loop-what-preserved : goal.loop-what-preserved
loop-what-preserved c =
    let h : c.loop-what.what-index < length c.deref-what-items.result.now = omega arith in
    named_more c.args.t c.args.items.now.items c.loop-what.items.items c.put.new.items.items c.args.whats.now.items c.deref-what-items.result.now
    c.loop-what.what-index _ c.deref-what-items.ensures.value h c.loop-what.invariant c.in_ok-put.ensures
