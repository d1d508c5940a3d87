use Rattle.std.proofs.Common.{◌≡◌, map, drop}
use Rattle.elab_conv.specs.elab_ctx.Ctx.{func_of}
use Rattle.elab_conv.specs.elab_ctx.Places.{kept_among}
use Rattle.elab_conv.specs.elab_rules.Initialising.{places_from}
use Rattle.elab_conv.specs.elab_rules.Names.{is_method, first_place}
use Rattle.elab_names.proofs.functions.first_method.Given as goal

abbrev pub invariant-loop-place : goal.invariant-loop-place
invariant-loop-place l = first_place (kept_among (λ f. is_method l.class l.name (func_of f)) l.funcs (drop l.place-index l.members))
    ≡ first_place (places_from (is_method l.class l.name) 0 (map func_of l.funcs))
