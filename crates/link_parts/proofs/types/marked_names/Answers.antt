use Rattle.std.proofs.Common.{◌+◌, ap, arith}
use Rattle.link_parts.proofs.PartSteps.{marked_step}
use Rattle.link_parts.proofs.types.marked_names.Goals as goal

pub loop-name-preserved : goal.loop-name-preserved
loop-name-preserved c = (
  marked_step c.args.all.now c.loop-name.name-index c.loop-name.i c.name-item.result c.args.marks.now _ _ _ c.loop-name-test.true c.name-item.is
      c.loop-name.invariant.1 (omega (arith, c.requires, c.loop-name-test.true)) c.loop-name.invariant.0 c.in_ok-push_marked.ensures,
  ap (λ k. k + 1) c.loop-name.invariant.1,
)
