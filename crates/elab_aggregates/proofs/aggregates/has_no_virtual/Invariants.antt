use Rattle.std.proofs.Common.{◌≡◌, not, drop, map}
use Rattle.elab_make.specs.elab_ctx.Ctx.{func_of}
use Rattle.elab_make.specs.elab_ctx.Places.{any_among}
use Rattle.elab_make.specs.elab_rules.Initialising.{places_from}
use Rattle.elab_make.specs.elab_rules.Braces.{is_virtual_member, is_empty}
use Rattle.elab_aggregates.proofs.aggregates.has_no_virtual.Given as goal

abbrev pub invariant-loop-place : goal.invariant-loop-place
invariant-loop-place l = not (any_among (λ f. is_virtual_member l.class (func_of f)) l.funcs (drop l.place-index l.members))
    ≡ is_empty (places_from (is_virtual_member l.class) 0 (map func_of l.funcs))
