use Rattle.std.proofs.Common.{◌∙◌, sym, arith}
use Rattle.src_bind.proofs.Steps.{before_ends}
use Rattle.src_bind.proofs.defs.is_before.Goals as goal

pub returns : goal.returns
returns c = sym (c.loop-i.invariant.0 ∙ before_ends c.args.a.now c.args.b.now c.loop-i.i (omega (arith, c.loop-i.invariant.1, c.loop-i-test.false)))
