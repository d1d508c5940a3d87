use Rattle.std.proofs.Common.{refl, sym, ap, ◌∙◌, take}
use Rattle.cpp_types.specs.Typ.{typs_of}
use Rattle.cpp_types.proofs.Views.{typs_snoc, front_more, roll_same}
use Rattle.cpp_types.proofs.copying.+copies.Goals as goal

pub copy_all-loop-ty-preserved : goal.copy_all-loop-ty-preserved
copy_all-loop-ty-preserved t c = ap typs_of c.in_ok-push.ensures.items
    ∙ typs_snoc c.loop-ty.copies.items (take c.loop-ty.ty-index c.args.types.now) c.in_ok-copy.field-0 c.ty-item.result c.loop-ty.invariant c.in_ok-copy.ensures
    ∙ sym (ap typs_of (front_more c.args.types.now c.loop-ty.ty-index c.ty-item.result c.loop-ty-test.true c.ty-item.is))

pub copy_function-returns : goal.copy_function-returns
copy_function-returns t c = roll_same c.in_ok-copy_all.field-0 c.in_ok-copy.field-0 _ c.args.function.now
    (c.in_ok-copy_all.ensures ∙ ap typs_of c.deref.ensures.value) c.in_ok-copy.ensures refl
