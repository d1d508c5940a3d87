use Rattle.std.proofs.Common.{◌≡◌, drop, map}
use Rattle.elab_entry.specs.elab_ctx.Ctx.{ctx_of, capture_of}
use Rattle.elab_entry.specs.elab_rules.Objects.{traits_at}
use Rattle.elab_entry.specs.elab_rules.Lambdas.{all_captured, copied_and_left}
use Rattle.elab_lambdas.proofs.traits.all_copied.Given as goal

abbrev pub invariant-loop-found : goal.invariant-loop-found
invariant-loop-found l = all_captured (λ n. copied_and_left (traits_at (ctx_of l.env) n)) (map capture_of l.captures)
    ≡ all_captured (λ n. copied_and_left (traits_at (ctx_of l.env) n)) (map capture_of (drop l.found-index l.captures))
