use Rattle.std.proofs.Common.{◌≡◌, drop, map}
use Rattle.std.specs.Prelude.{is_some}
use Rattle.elab_init.specs.elab_ctx.Ctx.{capture_of}
use Rattle.elab_init.specs.elab_rules.Names.{captured_from}
use Rattle.lambda_captures.proofs.captures.is_captured.Given as goal

abbrev pub invariant-loop-found : goal.invariant-loop-found
invariant-loop-found l = is_some (captured_from 0 l.variable (map capture_of l.captures))
    ≡ is_some (captured_from l.found-index l.variable (map capture_of (drop l.found-index l.captures)))
