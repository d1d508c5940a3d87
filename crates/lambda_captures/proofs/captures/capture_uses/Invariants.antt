use Rattle.std.proofs.Common.{◌≡◌, drop, map}
use Rattle.elab_init.specs.elab_ctx.Ctx.{ctx_of, capture_of}
use Rattle.elab_init.specs.elab_rules.Lambdas.{captured_uses}
use Rattle.lambda_captures.specs.Shown.{used_of}
use Rattle.lambda_captures.proofs.captures.capture_uses.Given as goal

abbrev pub invariant-loop-found : goal.invariant-loop-found
invariant-loop-found l = captured_uses (ctx_of l.env) l.by_ref (map capture_of l.captures.items) (map used_of (drop l.found-index l.used))
    ≡ captured_uses (ctx_of l.env) l.by_ref (map capture_of l.fn.captures.items) (map used_of l.used)
