use Rattle.std.proofs.Common.{arith}
use Rattle.tx_runtime.proofs.closing.Engine+A+A+Saved.roll.Goals as goal

pub roll_bare-requires-clause-bare : goal.roll_bare-requires-clause-bare
roll_bare-requires-clause-bare g c = c.count.ensures.none c.if-count-eq0.true

pub roll_holding-requires-clause-held : goal.roll_holding-requires-clause-held
roll_holding-requires-clause-held g c = let r = c.count.ensures.some (omega (arith, c.if-count-eq0.false)) in (r.0, r.1)
