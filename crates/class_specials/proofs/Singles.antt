-- Lists of types that have one type.
use Rattle.std.proofs.Common.{◌≡◌, Bool, true, false, ◌&&◌, List, [], ◌∷◌, length, get_or, refl, ◌∙◌, ap}
use Rattle.cpp_types.specs.declared.types.Ty.{Ty}
use Rattle.cpp_types.specs.Typ.{Typ, typ_of, typs_of, none, more}
use Rattle.cpp_types.specs.Equal.{typ_eq, typs_eq}

pub and_false : (b : Bool) → false ≡ (b && false)
and_false true = refl
and_false false = refl

pub and_true : (b : Bool) → b ≡ (b && true)
and_true true = refl
and_true false = refl

pub other_long : (t : Typ) (xs : List Ty) → (length xs ≡ 1 → ⊥) → false ≡ typs_eq (typs_of xs) (more t none)
other_long t [] h = refl
other_long t (y ∷ []) h = absurd (h refl)
other_long t (y ∷ z ∷ zs) h = and_false (typ_eq (typ_of y) t)

pub only_one : (t : Typ) (xs : List Ty) (x : Ty) (b : Bool) → length xs ≡ 1 → x ≡ get_or xs 0 x → b ≡ typ_eq (typ_of x) t
    → b ≡ typs_eq (typs_of xs) (more t none)
only_one t [] x b h e g = absurd cc
only_one t (y ∷ []) x b h e g = g ∙ ap (λ z. typ_eq (typ_of z) t) e ∙ and_true (typ_eq (typ_of y) t)
only_one t (y ∷ z ∷ zs) x b h e g = absurd cc
