use Rattle.std.proofs.Common.{◌≡◌, map, drop}
use Rattle.elab_casts.specs.elab_ctx.Ctx.{closure_of}
use Rattle.elab_casts.specs.elab_rules.Expressions.{closure_at}
use Rattle.elab_rows.proofs.closures.closure_at.Given as goal

abbrev pub invariant-loop-closure : goal.invariant-loop-closure
invariant-loop-closure l = closure_at l.at (map closure_of l.closures) ≡ closure_at l.at (map closure_of (drop l.closure-index l.closures))
