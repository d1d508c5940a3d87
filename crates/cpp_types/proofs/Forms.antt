-- Forms of types by the variant that the code sees.
use Rattle.std.proofs.Common.{◌≡◌, ◌∙◌, ℕ, Bool, refl, ap, sym, Box, Global}
use Rattle.cpp_types.specs.Typ.{Form, shape_form}
use Rattle.cpp_types.specs.Equal.{form_eq}
use Rattle.cpp_types.specs.Conversion.{bare_form}
use Rattle.cpp_types.specs.declared.types.Ty.{Ty}
use Rattle.cpp_types.specs.declared.types.Shape.{Shape, Array, Array'}

bare_plain : (s : Shape) → ((x : Box Ty Global) (n : ℕ) → s ≡ Array x n → ⊥) → bare_form (shape_form s) ≡ shape_form s
bare_plain (Array' p s c v n) h = absurd (h _ n refl)
bare_plain _ h = refl

pub same_plain : (r : Bool) (s t : Shape) → ((x : Box Ty Global) (n : ℕ) → s ≡ Array x n → ⊥) → ((x : Box Ty Global) (n : ℕ) → t ≡ Array x n → ⊥)
    → r ≡ form_eq (shape_form s) (shape_form t) → r ≡ form_eq (bare_form (shape_form s)) (bare_form (shape_form t))
same_plain r s t h k e = e ∙ sym (ap (λ (z : Form). form_eq z (bare_form (shape_form t))) (bare_plain s h) ∙ ap (form_eq (shape_form s)) (bare_plain t k))
