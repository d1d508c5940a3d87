-- A search by a test is a search among the places of those that pass another test, where whoever passes the one passes the other.
use Rattle.std.proofs.Common.{◌≡◌, ◌∙◌, ◌+◌, ◌||◌, ℕ, zero, suc, Bool, true, false, List, [], ◌∷◌, map, slice_get, unwrap_or, slice_set, Option, Some}
use Rattle.std.proofs.Common.{if◌then◌else◌, refl, sym, ap, arith, true≢false}
use Rattle.std.specs.List.{list_any}
use Rattle.elab_ctx.specs.Places.{places_where, first_where, passes, first_among, kept_among, any_among, changed_at}

-- the list behind a place is the list at hand
abbrev Behind : {A : Type 0} → List A → ℕ → List A → Type 0
Behind ws i xs = (k : ℕ) → slice_get ws (i + k) ≡ slice_get xs k

module _ {A : Type 0} where
  behind_on : (ws : List A) (i : ℕ) (x : A) (xs : List A) → Behind ws i (x ∷ xs) → Behind ws (suc i) xs
  behind_on ws i x xs h k = let e : suc i + k ≡ i + suc k = omega arith in ap (slice_get ws) e ∙ h (suc k)

  behind_at : (ws : List A) (i : ℕ) (x : A) (xs : List A) → Behind ws i (x ∷ xs) → slice_get ws i ≡ Some x
  behind_at ws i x xs h = let e : i ≡ i + 0 = omega arith in ap (slice_get ws) e ∙ h 0

module _ {A : Type 0} (test asks : A → Bool) (more : (x : A) → test x ≡ true → asks x ≡ true) where
  kept_step : (ws : List A) (i : ℕ) (x : A) (rest : List ℕ) (b c : Bool) → test x ≡ b → asks x ≡ c → slice_get ws i ≡ Some x
      → (if b then i ∷ kept_among test ws rest else kept_among test ws rest) ≡ kept_among test ws (if c then i ∷ rest else rest)
  kept_step ws i x rest true true t a at = ap (λ (z : Bool). if z then i ∷ kept_among test ws rest else kept_among test ws rest)
      (sym t ∙ ap (passes test) (sym at))
  kept_step ws i x rest true false t a at = absurd (true≢false (sym (more x t) ∙ a))
  kept_step ws i x rest false true t a at = ap (λ (z : Bool). if z then i ∷ kept_among test ws rest else kept_among test ws rest)
      (sym t ∙ ap (passes test) (sym at))
  kept_step ws i x rest false false t a at = refl

  kept_from : (ws : List A) (i : ℕ) (xs : List A) → Behind ws i xs → places_where test i xs ≡ kept_among test ws (places_where asks i xs)
  kept_from ws i [] h = refl
  kept_from ws i (x ∷ xs) h =
      ap (λ (z : List ℕ). if test x then i ∷ z else z) (kept_from ws (suc i) xs (behind_on ws i x xs h))
      ∙ kept_step ws i x (places_where asks (suc i) xs) (test x) (asks x) refl refl (behind_at ws i x xs h)

  -- all that pass
  pub all_among : (xs : List A) → places_where test 0 xs ≡ kept_among test xs (places_where asks 0 xs)
  all_among xs = kept_from xs 0 xs (λ k. let e : 0 + k ≡ k = omega arith in ap (slice_get xs) e)

  first_step : (ws : List A) (i : ℕ) (x : A) (rest : List ℕ) (b c : Bool) → test x ≡ b → asks x ≡ c → slice_get ws i ≡ Some x
      → (if b then Some i else first_among test ws rest) ≡ first_among test ws (if c then i ∷ rest else rest)
  first_step ws i x rest true true t a at = ap (λ (z : Bool). if z then Some i else first_among test ws rest) (sym t ∙ ap (passes test) (sym at))
  first_step ws i x rest true false t a at = absurd (true≢false (sym (more x t) ∙ a))
  first_step ws i x rest false true t a at = ap (λ (z : Bool). if z then Some i else first_among test ws rest) (sym t ∙ ap (passes test) (sym at))
  first_step ws i x rest false false t a at = refl

  first_of : (ws : List A) (i : ℕ) (xs : List A) → Behind ws i xs → first_where test i xs ≡ first_among test ws (places_where asks i xs)
  first_of ws i [] h = refl
  first_of ws i (x ∷ xs) h =
      ap (λ (z : Option ℕ). if test x then Some i else z) (first_of ws (suc i) xs (behind_on ws i x xs h))
      ∙ first_step ws i x (places_where asks (suc i) xs) (test x) (asks x) refl refl (behind_at ws i x xs h)

  -- the first that passes
  pub first_is_among : (xs : List A) → first_where test 0 xs ≡ first_among test xs (places_where asks 0 xs)
  first_is_among xs = first_of xs 0 xs (λ k. let e : 0 + k ≡ k = omega arith in ap (slice_get xs) e)

  any_step : (ws : List A) (i : ℕ) (x : A) (rest : List ℕ) (b c : Bool) → test x ≡ b → asks x ≡ c → slice_get ws i ≡ Some x
      → (b || any_among test ws rest) ≡ any_among test ws (if c then i ∷ rest else rest)
  any_step ws i x rest true true t a at = ap (λ (z : Bool). z || any_among test ws rest) (sym t ∙ ap (passes test) (sym at))
  any_step ws i x rest true false t a at = absurd (true≢false (sym (more x t) ∙ a))
  any_step ws i x rest false true t a at = ap (λ (z : Bool). z || any_among test ws rest) (sym t ∙ ap (passes test) (sym at))
  any_step ws i x rest false false t a at = refl

  any_of : (ws : List A) (i : ℕ) (xs : List A) → Behind ws i xs → list_any test xs ≡ any_among test ws (places_where asks i xs)
  any_of ws i [] h = refl
  any_of ws i (x ∷ xs) h =
      ap (λ (z : Bool). test x || z) (any_of ws (suc i) xs (behind_on ws i x xs h))
      ∙ any_step ws i x (places_where asks (suc i) xs) (test x) (asks x) refl refl (behind_at ws i x xs h)

  -- whether one passes
  pub any_is_among : (xs : List A) → list_any test xs ≡ any_among test xs (places_where asks 0 xs)
  any_is_among xs = any_of xs 0 xs (λ k. let e : 0 + k ≡ k = omega arith in ap (slice_get xs) e)

-- What a list shows

module _ {A B : Type 0} (g : A → B) (test : B → Bool) where
  pub places_shown : (i : ℕ) (xs : List A) → places_where test i (map g xs) ≡ places_where (λ x. test (g x)) i xs
  places_shown i [] = refl
  places_shown i (x ∷ xs) = ap (λ (z : List ℕ). if test (g x) then i ∷ z else z) (places_shown (suc i) xs)

  pub first_shown : (i : ℕ) (xs : List A) → first_where test i (map g xs) ≡ first_where (λ x. test (g x)) i xs
  first_shown i [] = refl
  first_shown i (x ∷ xs) = ap (λ (z : Option ℕ). if test (g x) then Some i else z) (first_shown (suc i) xs)

  pub any_shown : (xs : List A) → list_any test (map g xs) ≡ list_any (λ x. test (g x)) xs
  any_shown [] = refl
  any_shown (x ∷ xs) = ap (λ (z : Bool). test (g x) || z) (any_shown xs)

-- one that is changed, as a list that shows it says it
pub changed_shown : {A B : Type 0} (f : A → B) (g : A → A) (h : B → B) (xs : List A) (i : ℕ) (d : B) → ((x : A) → f (g x) ≡ h (f x))
    → map f (changed_at g i xs) ≡ slice_set (map f xs) i (h (unwrap_or (slice_get (map f xs) i) d))
changed_shown f g h [] i d same = refl
changed_shown f g h (x ∷ xs) zero d same = ap (λ z. z ∷ map f xs) (same x)
changed_shown f g h (x ∷ xs) (suc i) d same = ap (λ z. f x ∷ z) (changed_shown f g h xs i d same)
