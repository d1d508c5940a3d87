use Rattle.std.proofs.Common.{◌≡◌, ◌∙◌, ap, sym}
use Rattle.cpp_types.specs.Typ.{typ_of, shape_form}
use Rattle.elab_conv.specs.elab_rules.Objects.{element_of, element_form}
use Rattle.elab_init.proofs.types.+element.Goals as goal

pub bare_element-returns-in_ok-found-in-Array : goal.bare_element-returns-in_ok-found-in-Array
bare_element-returns-in_ok-found-in-Array t c =
    let e : c.deref.result.now ≡ c.in-Array.element.value = cc in
    c.in_ok-found-in-Array.ensures ∙ ap (λ z. element_of (typ_of z)) e ∙ sym (ap element_form (ap shape_form c.in-Array.is))
