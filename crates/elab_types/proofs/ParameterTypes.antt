-- Types of parameters, one behind the other.
use Rattle.std.proofs.Common.{◌≡◌, ℕ, zero, suc, ◌+◌, ◌<◌, ◌≤◌, List, [], ◌∷◌, ◌++◌, length, map, drop, get_or, refl, sym, ap, ◌∙◌, arith, add-one}
use Rattle.std.proofs.Math.Seq.{drop-cons}
use Rattle.cpp_types.specs.Typ.{Typ, Typs, none, more, typ_of, typs_of}
use Rattle.cpp_types.specs.declared.types.Ty.{Ty}
use Rattle.elab_conv.specs.cpp_tree.Typing.{unqualified}
use Rattle.elab_conv.specs.elab_rules.Types.{types_of}
use Rattle.elab_types.specs.declared.records.Parameter.{Parameter}
use Rattle.elab_types.specs.Shown.{parameter_of}

abbrev pub joined : Typs → Typs → Typs
joined none us = us
joined (more t ts) us = more t (joined ts us)

joined_none : (ts : Typs) → joined ts none ≡ ts
joined_none none = refl
joined_none (more t ts) = ap (more t) (joined_none ts)

pushed : (xs : List Ty) (x : Ty) (us : Typs) → joined (typs_of (xs ++ x ∷ [])) us ≡ joined (typs_of xs) (more (typ_of x) us)
pushed [] x us = refl
pushed (y ∷ xs) x us = ap (more (typ_of y)) (pushed xs x us)

drop_all : (xs : List Parameter) (i : ℕ) → length xs ≤ i → drop i xs ≡ []
drop_all [] zero h = refl
drop_all [] (suc i) h = refl
drop_all (x ∷ xs) zero h = absurd (omega arith)
drop_all (x ∷ xs) (suc i) h = drop_all xs i (omega arith)

pub types_more : (ps : List Parameter) (i : ℕ) (p : Parameter) (xs ys : List Ty) (x : Ty) (all : Typs) → i < length ps → p ≡ get_or ps i p
    → typ_of x ≡ unqualified (typ_of p.ty) → ys ≡ xs ++ x ∷ [] → joined (typs_of xs) (types_of (map parameter_of (drop i ps))) ≡ all
    → joined (typs_of ys) (types_of (map parameter_of (drop (i + 1) ps))) ≡ all
types_more ps i p xs ys x all h e t n g =
    let one : drop i ps ≡ p ∷ drop (suc i) ps = drop-cons ps i p h ∙ ap (λ (z : Parameter). z ∷ drop (suc i) ps) (sym e) in
    let before : joined (typs_of xs) (more (unqualified (typ_of p.ty)) (types_of (map parameter_of (drop (suc i) ps)))) ≡ all =
    sym (ap (λ (z : List Parameter). joined (typs_of xs) (types_of (map parameter_of z))) one) ∙ g in
    rw (n, add-one i) (pushed xs x (types_of (map parameter_of (drop (suc i) ps))) ∙ ap
    (λ (z : Typ). joined (typs_of xs) (more z (types_of (map parameter_of (drop (suc i) ps))))) t ∙ before)

pub types_all : (ps : List Parameter) (i : ℕ) (xs : List Ty) (all : Typs) → length ps ≤ i → joined (typs_of xs) (types_of (map parameter_of (drop i ps))) ≡ all
    → typs_of xs ≡ all
types_all ps i xs all h g = sym (joined_none (typs_of xs))
    ∙ sym (ap (λ (z : List Parameter). joined (typs_of xs) (types_of (map parameter_of z))) (drop_all ps i h)) ∙ g
