-- Lengths of lists of types.
use Rattle.std.proofs.Common.{◌≡◌, ◌<◌, ℕ, ◌+◌, Bool, true, false, List, length, drop, get_or, Option, MatchOption, refl, sym, ◌∙◌, ap, arith, subst, Box}
use Rattle.std.proofs.Common.{Global}
use Rattle.elab_sizes.proofs.Dropped.{drop_step}
use Rattle.cpp_types.specs.declared.types.FnTy.{FnTy}
use Rattle.cpp_types.specs.declared.types.Shape.{Shape, Func, Func'}
use Rattle.cpp_types.specs.Typ.{typ, Typs, none, more, typ_of, typs_of, shape_form, signature_of}
use Rattle.cpp_types.specs.Class.{Class}
use Rattle.cpp_types.specs.declared.types.Ty.{Ty}
use Rattle.elab_rules.specs.Sizes.{typ_length, typs_length, if_set, pointer_length, signature_length}
use Rattle.elab_sizes.specs.Lengths.{listed_length}

pub typs_listed : (classes : List Class) (ts : Typs) → typs_length classes ts ≡ listed_length classes false ts
typs_listed classes none = refl
typs_listed classes (more t none) = omega arith
typs_listed classes (more t (more u us)) =
    let e : typs_length classes (more u us) ≡ listed_length classes false (more u us) = typs_listed classes (more u us) in
    omega arith

-- the types from one place on
pub listed_next : (classes : List Class) (comma : Bool) (ts : List Ty) (i : ℕ) (t d : Ty) → i < length ts → t ≡ get_or ts i d
    → listed_length classes comma (typs_of (drop i ts))
    ≡ if_set comma 1 + typ_length classes (typ_of t) + listed_length classes true (typs_of (drop (i + 1) ts))
listed_next classes comma ts i t d h e = rw (drop_step ts i d h) (rw e refl)

-- Pointers

pub room_same : (room : ℕ) (r : Option ℕ) (x y : ℕ) → x ≡ y → MatchOption r (room < x) (λ (z : ℕ). z + x ≡ room)
    → MatchOption r (room < y) (λ (z : ℕ). z + y ≡ room)
room_same room r x y e h = subst (λ (n : ℕ). MatchOption r (room < n) (λ (z : ℕ). z + n ≡ room)) e h

pub function_pointer : (classes : List Class) (s : Shape) (f : Box FnTy Global) (g : FnTy) (d w : Bool) → g ≡ f.value → s ≡ Func f
    → 3 + signature_length classes (signature_of g) ≡ pointer_length classes (typ (shape_form s) d w)
function_pointer classes s f g d w h e = ap (λ (z : FnTy). 3 + signature_length classes (signature_of z)) h
    ∙ ap (λ (z : Shape). pointer_length classes (typ (shape_form z) d w)) (sym e)

pub plain_pointer : (classes : List Class) (s : Shape) (d w : Bool) → ((x : Box FnTy Global) → s ≡ Func x → ⊥)
    → 1 + typ_length classes (typ (shape_form s) d w) ≡ pointer_length classes (typ (shape_form s) d w)
plain_pointer classes (Func' p f) d w h = absurd (h _ refl)
plain_pointer classes _ d w h = omega arith
