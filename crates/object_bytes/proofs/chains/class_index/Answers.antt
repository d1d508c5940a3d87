use Rattle.std.proofs.Common.{arith}
use Rattle.object_bytes.proofs.ByName.{found_as, bounds_up, bounds_down, none_between}
use Rattle.object_bytes.proofs.chains.class_index.Goals as goal

pub returns-then-found-name : goal.returns-then-found-name
returns-then-found-name c = found_as _ _ _ _ c.requires c.class_name-found.ensures c.if-found-name.true

pub loop-low-preserved-then-found-name-2 : goal.loop-low-preserved-then-found-name-2
loop-low-preserved-then-found-name-2 c = bounds_up _ _ _ _ _ _ c.requires c.loop-low.invariant
    (omega (arith, c.loop-low-test.true)) c.class_name-found.ensures c.if-found-name-2.true

pub returns : goal.returns
returns c = none_between _ _ _ _ c.loop-low.invariant c.loop-low-test.false

pub loop-low-preserved : goal.loop-low-preserved
loop-low-preserved c = bounds_down _ _ _ _ _ _ c.requires c.loop-low.invariant (omega (arith, c.loop-low-test.true))
    (omega (arith, c.loop-low-test.true)) c.class_name-found.ensures (omega (arith, c.if-found-name.false, c.if-found-name-2.false))
