use Rattle.std.proofs.Common.{◌≡◌, drop, map}
use Rattle.elab_init.specs.elab_ctx.Ctx.{func_of}
use Rattle.elab_init.specs.elab_ctx.Places.{any_among}
use Rattle.elab_init.specs.elab_rules.Classes.{has_function}
use Rattle.class_members.specs.Parts.{is_named}
use Rattle.class_members.proofs.data_members.is_among.Given as goal

abbrev pub invariant-loop-place : goal.invariant-loop-place
invariant-loop-place l = any_among (λ f. is_named l.class l.name (func_of f)) l.funcs (drop l.place-index l.members)
    ≡ has_function l.class l.name (map func_of l.funcs)
