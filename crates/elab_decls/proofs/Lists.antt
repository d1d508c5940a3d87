-- Lists whose elements are read and replaced, and lists of types.
use Rattle.std.proofs.Common.{◌≡◌, ◌∙◌, ◌<◌, ◌≤◌, ◌==◌, ℕ, zero, suc, List, [], ◌∷◌, length, map, get_or, Vec, Global, vec_len, unwrap_or, option_map}
use Rattle.std.proofs.Common.{slice_get, slice_set, refl, sym, ap, arith, rules}
use Rattle.std.proofs.Math.Dec.{eqb-suc-zero}
use Rattle.std.proofs.lemmas.List.{map-set}
use Rattle.std.proofs.lemmas.Option.{slice_get-map, slice_get_read}
use Rattle.cpp_types.specs.Typ.{Typ, typs_of, typ_of, signature_of}
use Rattle.cpp_types.specs.declared.types.Ty.{Ty}
use Rattle.cpp_types.specs.declared.types.FnTy.{FnTy, out-FnTy}
use Rattle.cpp_types.proofs.Views.{signature_view}
use Rattle.elab_expr.specs.elab_ctx.Ctx.{Enumerator, enumerator_of}
use Rattle.elab_expr.specs.elab_ctx.declared.env.EnumRec.{EnumRec}
use Rattle.elab_expr.specs.elab_rules.Initialising.{signature_parameters}
use Rattle.elab_expr.specs.elab_rules.Functions.{is_none_typs}
use Rattle.elab_expr.specs.elab_rules.Globals.{typed_from}
use Rattle.elab_decls.specs.Says.{with_typ}

-- what is read of an element
pub shown_at : {A B : Type 0} (f : A → B) (xs : List A) (i : ℕ) (x : A) (d : B) → i < length xs → x ≡ get_or xs i x → unwrap_or (slice_get (map f xs) i) d ≡ f x
shown_at {A} {B} f xs i x d h e = ap (λ o. unwrap_or o d) (slice_get-map f xs i ∙ ap (option_map f) (slice_get_read xs (length xs) i x refl h e))

-- an element is replaced by one that shows what was read of it, changed
pub changed_at : {A B : Type 0} (f : A → B) (g : B → B) (xs : List A) (i : ℕ) (x y : A) (d : B) → i < length xs → x ≡ get_or xs i x → f y ≡ g (f x)
    → map f (slice_set xs i y) ≡ slice_set (map f xs) i (g (unwrap_or (slice_get (map f xs) i) d))
changed_at {A} {B} f g xs i x y d h e k = map-set f xs i y ∙ ap (slice_set (map f xs) i) (k ∙ ap g (sym (shown_at f xs i x d h e)))

-- Types of parameters

none_typs : (ts : List Ty) → is_none_typs (typs_of ts) ≡ (length ts == 0)
none_typs [] = refl
none_typs (t ∷ ts) = sym (eqb-suc-zero (length ts))

count_is : (v : Vec Ty Global) → vec_len v ≡ length v.items
count_is v = search rules

pub takes_none : (f : FnTy) → (vec_len (out-FnTy f).params == 0) ≡ is_none_typs (signature_parameters (signature_of f))
takes_none f = ap (λ (n : ℕ). n == 0) (count_is (out-FnTy f).params) ∙ sym (none_typs (out-FnTy f).params.items)
    ∙ ap (λ z. is_none_typs (signature_parameters z)) (sym (signature_view f))

-- Enumerators that get the type of their enum

pub typed_at : (es : List EnumRec) (i : ℕ) (t : Ty) (x : EnumRec) → i < length es → x ≡ get_or es i x
    → map enumerator_of (slice_set es i (record { ty = t; word = x.word })) ≡ with_typ (map enumerator_of es) i (typ_of t)
typed_at [] i t x h e = absurd (omega arith)
typed_at (y ∷ es) zero t x h e = ap (λ (z : EnumRec). record { typ = typ_of t; word = z.word } ∷ map enumerator_of es) e
typed_at (y ∷ es) (suc i) t x h e = ap (λ (z : List Enumerator). enumerator_of y ∷ z) (typed_at es i t x (omega arith) e)

pub typed_past : (es : List EnumRec) (i : ℕ) (t : Typ) → length es ≤ i → map enumerator_of es ≡ with_typ (map enumerator_of es) i t
typed_past [] i t h = refl
typed_past (y ∷ es) zero t h = absurd (omega arith)
typed_past (y ∷ es) (suc i) t h = ap (λ (z : List Enumerator). enumerator_of y ∷ z) (typed_past es i t (omega arith))

pub one_typed : (i : ℕ) (t : Typ) (es : List Enumerator) → typed_from (suc i) t (with_typ es i t) ≡ typed_from i t es
one_typed zero t [] = refl
one_typed (suc i) t [] = refl
one_typed zero t (e ∷ es) = refl
one_typed (suc i) t (e ∷ es) = ap (λ (z : List Enumerator). e ∷ z) (one_typed i t es)

pub all_typed : (i : ℕ) (t : Typ) (es : List Enumerator) → length es ≤ i → typed_from i t es ≡ es
all_typed zero t [] h = refl
all_typed zero t (e ∷ es) h = absurd (omega arith)
all_typed (suc i) t [] h = refl
all_typed (suc i) t (e ∷ es) h = ap (λ (z : List Enumerator). e ∷ z) (all_typed i t es (omega arith))

pub as_many : (es : List Enumerator) (i : ℕ) (t : Typ) → length (with_typ es i t) ≡ length es
as_many [] i t = refl
as_many (e ∷ es) zero t = refl
as_many (e ∷ es) (suc i) t = ap suc (as_many es i t)
