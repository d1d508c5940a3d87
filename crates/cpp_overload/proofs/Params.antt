-- Parameters by their indices.
use Rattle.std.proofs.Common.{◌≡◌, ◌∙◌, ℕ, zero, suc, ◌<◌, length, List, [], ◌∷◌, Option, Some, None, slice_get, map, refl, sym, ap, arith, Bor, MatchOption}
use Rattle.std.proofs.Common.{IsTrue, ◌↔◌, ◌==◌, ◌-◌, eqb-true, eq-eqb}
use Rattle.std.specs.Option.{option_map}
use Rattle.cpp_types.specs.declared.types.Ty.{Ty}
use Rattle.cpp_types.specs.declared.types.FnTy.{FnTy, out-FnTy}
use Rattle.cpp_types.specs.Typ.{Typ, Typs, more, typ_of, typs_of, signature_of}
use Rattle.cpp_types.proofs.Views.{signature_view}
use Rattle.cpp_overload.specs.Overload.{typ_at, count_of, parameters, with_object, parameters_of, candidate_of}
use Rattle.cpp_overload.specs.declared.calls.Cand.{Cand}

pub parameters_view : (f : FnTy) → parameters (signature_of f) ≡ typs_of (out-FnTy f).params.items
parameters_view f = ap parameters (signature_view f)

typ_at-typs_of : (xs : List Ty) (i : ℕ) → typ_at (typs_of xs) i ≡ slice_get (map typ_of xs) i
typ_at-typs_of [] i = refl
typ_at-typs_of (x ∷ xs) zero = refl
typ_at-typs_of (x ∷ xs) (suc i) = typ_at-typs_of xs i

pub count_of-typs_of : (xs : List Ty) → count_of (typs_of xs) ≡ length xs
count_of-typs_of [] = refl
count_of-typs_of (x ∷ xs) = ap suc (count_of-typs_of xs)

pub match_same : (r : Option (Bor Ty)) (x y : Option Typ) → x ≡ y → MatchOption r (y ≡ None) (λ t. y ≡ Some (typ_of t.now))
    → MatchOption r (x ≡ None) (λ t. x ≡ Some (typ_of t.now))
match_same None x y e h = e ∙ h
match_same (Some t) x y e h = e ∙ h

only_params : (c : Cand) (xs : List Ty) → c.this ≡ None → xs ≡ (out-FnTy c.ty).params.items → parameters_of (candidate_of c) ≡ typs_of xs
only_params c xs e f = ap (λ (o : Option Ty). with_object (option_map typ_of o) (parameters (signature_of c.ty))) e ∙ parameters_view c.ty ∙ ap typs_of (sym f)

object_params : (c : Cand) (t : Ty) (xs : List Ty) → c.this ≡ Some t → xs ≡ (out-FnTy c.ty).params.items
    → parameters_of (candidate_of c) ≡ more (typ_of t) (typs_of xs)
object_params c t xs e f = ap (λ (o : Option Ty). with_object (option_map typ_of o) (parameters (signature_of c.ty))) e
    ∙ ap (more (typ_of t)) (parameters_view c.ty ∙ ap typs_of (sym f))

pub at_params : (c : Cand) (i : ℕ) (xs : List Ty) → c.this ≡ None → xs ≡ (out-FnTy c.ty).params.items
    → typ_at (parameters_of (candidate_of c)) i ≡ slice_get (map typ_of xs) i
at_params c i xs e f = ap (λ (z : Typs). typ_at z i) (only_params c xs e f) ∙ typ_at-typs_of xs i

later : (t : Typ) (ts : Typs) (i : ℕ) → (i ≡ 0 → ⊥) → typ_at (more t ts) i ≡ typ_at ts (i - 1)
later t ts zero h = absurd (h refl)
later t ts (suc j) h = let e : j ≡ suc j - 1 = omega arith in ap (typ_at ts) e

pub typ_at-later : (c : Cand) (t : Ty) (i : ℕ) (xs : List Ty) → c.this ≡ Some t → (i ≡ 0 → ⊥) → xs ≡ (out-FnTy c.ty).params.items
    → typ_at (parameters_of (candidate_of c)) i ≡ slice_get (map typ_of xs) (i - 1)
typ_at-later c t i xs e n f = ap (λ (z : Typs). typ_at z i) (object_params c t xs e f) ∙ later (typ_of t) (typs_of xs) i n ∙ typ_at-typs_of xs (i - 1)

pub count_none : (c : Cand) (n k : ℕ) (xs : List Ty) → c.this ≡ None → xs ≡ (out-FnTy c.ty).params.items → k ≡ count_of (typs_of xs) → IsTrue (k == n)
    ↔ (count_of (parameters_of (candidate_of c)) ≡ n)
count_none c n k xs e f g = let h : count_of (parameters_of (candidate_of c)) ≡ k = ap count_of (only_params c xs e f) ∙ sym g in
    (λ z. h ∙ eqb-true k n z, λ q. eq-eqb k n (sym h ∙ q))

pub count_object : (c : Cand) (t : Ty) (n k : ℕ) (xs : List Ty) → 0 < n → c.this ≡ Some t → xs ≡ (out-FnTy c.ty).params.items → k ≡ count_of (typs_of xs)
    → IsTrue (k == (n - 1)) ↔ (count_of (parameters_of (candidate_of c)) ≡ n)
count_object c t n k xs p e f g = let h : count_of (parameters_of (candidate_of c)) ≡ suc k = ap count_of (object_params c t xs e f) ∙ ap suc (sym g) in
    (λ z. let w : k ≡ n - 1 = eqb-true k (n - 1) z in omega (arith, h, w), λ q. let w : k ≡ n - 1 = omega (arith, h, q) in eq-eqb k (n - 1) w)
