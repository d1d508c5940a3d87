use Rattle.std.proofs.Common.{◌≡◌, ◌<◌, ap, subst}
use Rattle.cpp_types.specs.declared.types.Ty.{Ty}
use Rattle.cpp_types.specs.Typ.{shape_form}
use Rattle.cpp_layout.specs.Layout.{form_extent}
use Rattle.cpp_layout.specs.Measured.{shown}
use Rattle.cpp_layout.proofs.Forms.{none_answers, large_elements}
use Rattle.cpp_layout.specs.declared.extents.TheConstants.{GREATEST_SIZE}
use Rattle.cpp_layout.proofs.extents.+scaled.Goals as goal

pub returns-in_err-scaled-in-Array : goal.returns-in_err-scaled-in-Array
returns-in_err-scaled-in-Array t c =
    let e : c.deref.result.now ≡ c.in-Array.element.value = cc in
    none_answers c.from_residual.result (form_extent (λ n. shown c.args.part) (shape_form c.args.shape.now)) c.from_residual.ensures
    (large_elements (λ n. shown c.args.part) (shape_form c.args.shape.now)
    (shape_form c.in-Array.element.value.shape) c.in-Array.element.value.is_const c.in-Array.element.value.is_volatile c.in-Array.count
    (ap shape_form c.in-Array.is) c.requires.elements
    (subst (λ (z : Ty). GREATEST_SIZE < (form_extent (λ n. shown c.args.part) (shape_form z.shape)).size) e c.in_err-scaled-in-Array.ensures))
