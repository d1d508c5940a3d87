use Rattle.std.proofs.Common.{◌≡◌, ◌++◌, map, drop}
use Rattle.elab_conv.specs.elab_ctx.Ctx.{func_of}
use Rattle.elab_conv.specs.elab_ctx.Places.{kept_among}
use Rattle.elab_conv.specs.elab_rules.Initialising.{places_from}
use Rattle.elab_conv.specs.elab_rules.Names.{is_method}
use Rattle.elab_names.proofs.functions.method_places.Given as goal

abbrev pub invariant-loop-place : goal.invariant-loop-place
invariant-loop-place l = l.places.items ++ kept_among (λ f. is_method l.class l.name (func_of f)) l.funcs (drop l.place-index l.members)
    ≡ places_from (is_method l.class l.name) 0 (map func_of l.funcs)
