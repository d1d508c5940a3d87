use Rattle.std.proofs.Common.{◌≡◌, drop, map}
use Rattle.elab_init.specs.elab_ctx.Ctx.{func_of}
use Rattle.elab_init.specs.elab_ctx.Places.{first_among}
use Rattle.elab_init.specs.elab_rules.Functions.{is_same_function, first_from}
use Rattle.class_members.specs.Shown.{header_of}
use Rattle.class_members.proofs.methods.first_same.Given as goal

abbrev pub invariant-loop-place : goal.invariant-loop-place
invariant-loop-place l = first_among (λ f. is_same_function (header_of l.header) (func_of f)) l.funcs (drop l.place-index l.places)
    ≡ first_from (is_same_function (header_of l.header)) 0 (map func_of l.funcs)
