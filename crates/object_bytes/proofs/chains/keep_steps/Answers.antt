use Rattle.std.proofs.Common.{arith}
use Rattle.object_bytes.proofs.ChainSteps.{one_less, kept}
use Rattle.object_bytes.proofs.chains.keep_steps.Goals as goal

pub loop-left-preserved : goal.loop-left-preserved
loop-left-preserved c =
    let less = one_less _ _ _ _ _ c.loop-left.invariant.1 c.loop-left-test.true c.in-Some.ensures c.class_base-at.ensures in (
      kept _ _ _ _ _ c.loop-left.invariant.0 (omega (arith, c.loop-left.invariant.0.as_many, c.in-Some.ensures.within)) c.class_base-at.ensures less,
      less,
    )
