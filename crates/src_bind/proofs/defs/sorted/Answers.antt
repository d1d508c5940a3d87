use Rattle.std.proofs.Common.{◌-◌, arith}
use Rattle.std.proofs.lemmas.List.{drop_more}
use Rattle.src_bind.proofs.Steps.{sorted_step}
use Rattle.src_bind.proofs.defs.sorted.Goals as goal

pub loop-left-preserved : goal.loop-left-preserved
loop-left-preserved c = (
  sorted_step c.args.defs.now (c.loop-left.left - 1) c.loop-left.left _ _ _ (omega (arith, c.loop-left-test.true))
      (drop_more c.args.defs.now (c.loop-left.left - 1) _
      (omega (arith, c.loop-left-test.true, c.loop-left.invariant.1))) c.loop-left.invariant.0 c.in_ok-insert.ensures,
  omega (arith, c.loop-left.invariant.1),
)
