use Rattle.std.proofs.Common.{◌≡◌, ◌&&◌, drop, map}
use Rattle.std.specs.List.{list_any}
use Rattle.elab_init.specs.elab_ctx.Ctx.{Func, func_of}
use Rattle.elab_init.specs.elab_ctx.Places.{any_among}
use Rattle.elab_init.specs.elab_rules.Initialising.{same_number}
use Rattle.class_specials.proofs.part_tests.has_no_virtual.Given as goal

abbrev pub invariant-loop-place : goal.invariant-loop-place
invariant-loop-place l = any_among (λ f. same_number l.class (func_of f).class && (func_of f).declared.is_virtual) l.funcs (drop l.place-index l.members)
    ≡ list_any (λ (f : Func). same_number l.class f.class && f.declared.is_virtual) (map func_of l.funcs)
