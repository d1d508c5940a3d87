use Rattle.std.proofs.Common.{◌≡◌, map, drop}
use Rattle.elab_conv.specs.elab_ctx.Ctx.{capture_of}
use Rattle.elab_conv.specs.elab_rules.Names.{captured_from}
use Rattle.elab_names.proofs.captures.captured_at.Given as goal

abbrev pub invariant-loop-i : goal.invariant-loop-i
invariant-loop-i l = captured_from 0 l.variable (map capture_of l.captures) ≡ captured_from l.i l.variable (map capture_of (drop l.i l.captures))
