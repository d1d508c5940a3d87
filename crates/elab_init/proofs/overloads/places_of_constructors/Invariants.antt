use Rattle.std.proofs.Common.{◌≡◌, ◌++◌, map, drop}
use Rattle.elab_conv.specs.elab_ctx.Ctx.{func_of}
use Rattle.elab_conv.specs.elab_ctx.Places.{kept_among}
use Rattle.elab_conv.specs.elab_rules.Initialising.{places_from, is_constructor}
use Rattle.elab_init.proofs.overloads.places_of_constructors.Given as goal

abbrev pub invariant-loop-place : goal.invariant-loop-place
invariant-loop-place l = l.list.items ++ kept_among (λ f. is_constructor l.class (func_of f)) l.funcs (drop l.place-index l.members)
    ≡ places_from (is_constructor l.class) 0 (map func_of l.funcs)
