use Rattle.std.proofs.Common.{◌≡◌, drop, map}
use Rattle.std.specs.List.{list_any}
use Rattle.elab_entry.specs.cpp_types.Conversion.{volatile_of}
use Rattle.elab_entry.specs.elab_ctx.Ctx.{Capture, capture_of}
use Rattle.elab_lambdas.proofs.traits.any_volatile.Given as goal

abbrev pub invariant-loop-found : goal.invariant-loop-found
invariant-loop-found l = list_any (λ (x : Capture). volatile_of x.typ) (map capture_of l.captures)
    ≡ list_any (λ (x : Capture). volatile_of x.typ) (map capture_of (drop l.found-index l.captures))
