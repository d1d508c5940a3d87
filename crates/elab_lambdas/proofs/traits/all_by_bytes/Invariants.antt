use Rattle.std.proofs.Common.{◌≡◌, drop, map}
use Rattle.elab_entry.specs.elab_ctx.Ctx.{ctx_of, capture_of}
use Rattle.elab_entry.specs.elab_rules.Objects.{traits_at}
use Rattle.elab_entry.specs.elab_rules.Lambdas.{all_captured}
use Rattle.elab_lambdas.proofs.traits.all_by_bytes.Given as goal

abbrev pub invariant-loop-found : goal.invariant-loop-found
invariant-loop-found l = all_captured (λ n. (traits_at (ctx_of l.env) n).is_trivially_copyable) (map capture_of l.captures)
    ≡ all_captured (λ n. (traits_at (ctx_of l.env) n).is_trivially_copyable) (map capture_of (drop l.found-index l.captures))
