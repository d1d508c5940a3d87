-- The table of bodies by nodes.
use Rattle.std.proofs.Common.{◌≡◌, ℕ, zero, suc, ◌+◌, ◌<◌, nat_eq, if◌then◌else◌, List, [], ◌∷◌, ◌++◌, length, take, set, replicate, slice_get, Option, Some}
use Rattle.std.proofs.Common.{None, refl, sym, ◌∙◌, ap, arith, inl, inr, append-nil}
use Rattle.std.proofs.lemmas.Bool.{cases_eq}
use Rattle.std.proofs.lemmas.Option.{none-some, get_or_from_slice_get}
use Rattle.std.proofs.lemmas.List.{take_more}
use Rattle.cpp_ast.specs.declared.arena.NodeId.{NodeId}
use Rattle.cpp_ast.specs.declared.units.LamBody.{LamBody}
use Rattle.cpp_ast.specs.Trees.{kids_with}
use Rattle.unit_syntax.specs.Copies.{body_in, IsNotedIn}

abbrev pub no_entry : Option NodeId
no_entry = None

pub none_or : (P : Option NodeId → Type 0) → ((x : NodeId) → P (Some x) → ⊥) → (y : Option NodeId) → P y → y ≡ None
none_or P f None h = refl
none_or P f (Some x) h = absurd (f x h)

none_there : (n id : ℕ) → body_in (slice_get (replicate n no_entry) id) ≡ []
none_there zero id = refl
none_there (suc n) zero = refl
none_there (suc n) (suc id) = none_there n id

pub table_empty : (n : ℕ) (table : List (Option NodeId)) → table ≡ replicate n no_entry → IsNotedIn [] table
table_empty n table e = record {
  each = λ kids id.
      sym (ap (λ (t : List (Option NodeId)). kids ++ body_in (slice_get t id)) e ∙ ap (λ (is : List NodeId). kids ++ is) (none_there n id) ∙ append-nil kids);
}

-- Writes at an index.

set_same : {A : Type 0} (xs : List A) (k : ℕ) (x y : A) → slice_get xs k ≡ Some y → slice_get (set xs k x) k ≡ Some x
set_same [] k x y h = absurd (none-some y h)
set_same (z ∷ xs) zero x y h = refl
set_same (z ∷ xs) (suc k) x y h = set_same xs k x y h

set_other : {A : Type 0} (xs : List A) (k i : ℕ) (x : A) → (i ≡ k → ⊥) → slice_get (set xs k x) i ≡ slice_get xs i
set_other [] k i x h = refl
set_other (y ∷ xs) zero zero x h = absurd (h refl)
set_other (y ∷ xs) zero (suc i) x h = refl
set_other (y ∷ xs) (suc k) zero x h = refl
set_other (y ∷ xs) (suc k) (suc i) x h = set_other xs k i x (λ e. h (ap (λ (n : ℕ). suc n) e))

kids_with-snoc : (bodies : List LamBody) (b : LamBody) (kids : List NodeId) (id : ℕ)
    → kids_with kids (bodies ++ b ∷ []) id ≡ (if nat_eq b.lam.0 id then kids_with kids bodies id ++ b.body ∷ [] else kids_with kids bodies id)
kids_with-snoc [] b kids id = refl
kids_with-snoc (c ∷ bodies) b kids id = kids_with-snoc bodies b (if nat_eq c.lam.0 id then kids ++ c.body ∷ [] else kids) id

if_same : (a b : ℕ) (more kids : List NodeId) → a ≡ b → (if nat_eq a b then more else kids) ≡ more
if_same a b more kids e = grind (arith, e)

if_other : (a b : ℕ) (more kids : List NodeId) → (a ≡ b → ⊥) → (if nat_eq a b then more else kids) ≡ kids
if_other a b more kids h = grind (arith, h)

-- one body more, of a lambda that has none
pub table_more : (bodies : List LamBody) (i : ℕ) (b : LamBody) (table new : List (Option NodeId)) → i < length bodies
    → slice_get bodies i ≡ Some b → IsNotedIn (take i bodies) table → slice_get table b.lam.0 ≡ Some None → new ≡ set table b.lam.0 (Some b.body)
    → IsNotedIn (take (i + 1) bodies) new
table_more bodies i b table new inside at h free written = record {
  each = λ kids id.
      let taken : take (i + 1) bodies ≡ take i bodies ++ b ∷ [] = take_more bodies i b inside ∙ ap (λ (c : LamBody). take i bodies ++ c ∷ [])
      (get_or_from_slice_get bodies i b b at) in
      let more : kids_with kids (take (i + 1) bodies) id
      ≡ (if nat_eq b.lam.0 id then kids_with kids (take i bodies) id ++ b.body ∷ [] else kids_with kids (take i bodies) id) = ap
      (λ (bs : List LamBody). kids_with kids bs id) taken ∙ kids_with-snoc (take i bodies) b kids id in
      let front : kids_with kids (take i bodies) id ≡ kids ++ body_in (slice_get table id) = h.each kids id in
      elim (cases_eq b.lam.0 id) [
        | inl same ↦
            let none : kids_with kids (take i bodies) id ≡ kids = front ∙ ap (λ (z : ℕ). kids ++ body_in (slice_get table z)) (sym same) ∙ ap
            (λ (o : Option (Option NodeId)). kids ++ body_in o) free ∙ append-nil kids in
            let now : slice_get new id ≡ Some (Some b.body) = ap (λ (z : ℕ). slice_get new z) (sym same) ∙ ap
            (λ (t : List (Option NodeId)). slice_get t b.lam.0) written ∙ set_same table b.lam.0 (Some b.body) None free in
            more ∙ if_same b.lam.0 id (kids_with kids (take i bodies) id ++ b.body ∷ []) (kids_with kids (take i bodies) id) same
            ∙ ap (λ (is : List NodeId). is ++ b.body ∷ []) none
            ∙ ap (λ (o : Option (Option NodeId)). kids ++ body_in o) (sym now)
        | inr other ↦
            let kept : slice_get new id ≡ slice_get table id = ap (λ (t : List (Option NodeId)). slice_get t id) written ∙ set_other table b.lam.0 id
            (Some b.body) (λ e. other (sym e)) in
            more ∙ if_other b.lam.0 id (kids_with kids (take i bodies) id ++ b.body ∷ []) (kids_with kids (take i bodies) id) other ∙ front
            ∙ ap (λ (o : Option (Option NodeId)). kids ++ body_in o) (sym kept)
      ];
}
