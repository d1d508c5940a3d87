use Rattle.std.proofs.Common.{◌≡◌, drop, map}
use Rattle.elab_init.specs.elab_ctx.Ctx.{func_of}
use Rattle.elab_init.specs.elab_ctx.Places.{first_among}
use Rattle.elab_init.specs.elab_rules.Functions.{first_from}
use Rattle.class_members.specs.Shown.{home_of}
use Rattle.class_specials.specs.Tests.{is_wanted}
use Rattle.class_specials.proofs.places.first_place.Given as goal

abbrev pub invariant-loop-place : goal.invariant-loop-place
invariant-loop-place l = first_among (λ f. is_wanted l.what (home_of l.home) (func_of f)) l.funcs (drop l.place-index l.members)
    ≡ first_from (is_wanted l.what (home_of l.home)) 0 (map func_of l.funcs)
