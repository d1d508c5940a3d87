-- Where items of one key that differ make a dispute, a dispute is one with the first item of the key.
use Rattle.std.proofs.Common.{Bool, true, false, ◌≡◌, ℕ, List, [], ◌∷◌, ◌++◌, refl, Option, Some, None, ◌&&◌, ◌||◌, nat_eq, cond, inl, inr}
use Rattle.std.specs.Prelude.{◌⊎◌}
use Rattle.std.specs.List.{list_any}
use borrow.Author.Tests.{eqb-true}
use Rattle.link_faults.specs.Faults.{any_two, first_of}
use Rattle.link_faults.proofs.Ascending.{or_right}
use Rattle.link_faults.proofs.FirstClaims.{or_left, any_of_append, first_passes, apart, other, both}

abbrev pub keyed : {A : Type 0} (key : A → ℕ) (differ : A → A → Bool) → ℕ → A → A → Bool
keyed key differ k a b = nat_eq (key a) k && nat_eq (key b) k && differ a b

abbrev pub differs_with : {A : Type 0} (differ : A → A → Bool) → Option A → A → Bool
differs_with differ None c = false
differs_with differ (Some f) c = differ f c

-- where the second differs from the third, the first differs from one of the two
pub record Spreads {A : Type 0} (differ : A → A → Bool) : Type 0 where
  pub spreads : (x f c : A) → differ f c ≡ true → (differ x f ≡ true) ⊎ (differ x c ≡ true)

differs_among : {A : Type 0} (key : A → ℕ) (differ : A → A → Bool) → Spreads differ → (xs : List A) (x c : A) (k : ℕ) → key c ≡ k → nat_eq (key x) k ≡ true
    → differs_with differ (first_of (λ y. nat_eq (key y) (key c)) xs) c ≡ true → (list_any (keyed key differ k x) xs || differ x c) ≡ true
differs_among {A} key differ m xs x c k same e h = by (first_of (λ y. nat_eq (key y) (key c)) xs) refl h
  where
    by : (o : Option A) → first_of (λ y. nat_eq (key y) (key c)) xs ≡ o → differs_with differ o c ≡ true
        → (list_any (keyed key differ k x) xs || differ x c) ≡ true
    by None r g = cc
    by (Some f) r g =
        let p = first_passes (λ y. nat_eq (key y) (key c)) (keyed key differ k x) xs f r in
        let q : nat_eq (key f) k ≡ true = rw same at p.1 in
        elim (m.spreads x f c g) [
          | inl d ↦ or_left _ _ (p.0 (rw (e, q) d))
          | inr d ↦ or_right (list_any (keyed key differ k x) xs) _ d
        ]

pub more_differ : {A : Type 0} (key : A → ℕ) (differ : A → A → Bool) → Spreads differ → (xs : List A) (c : A) (k : ℕ)
    → any_two (keyed key differ k) (xs ++ c ∷ []) ≡ (any_two (keyed key differ k) xs ||
    (nat_eq (key c) k && differs_with differ (first_of (λ y. nat_eq (key y) (key c)) xs) c))
more_differ key differ m [] c k = by (nat_eq (key c) k)
  where
    by : (b : Bool) → false ≡ (b && false)
    by true = refl
    by false = refl
more_differ {A} key differ m (x ∷ xs) c k =
    rw (any_of_append (keyed key differ k x) xs (c ∷ []), more_differ key differ m xs c k)
    (by (nat_eq (key c) k) refl (nat_eq (key x) (key c)) refl)
  where
    by : (e : Bool) → nat_eq (key c) k ≡ e → (s : Bool) → nat_eq (key x) (key c) ≡ s
        → ((list_any (keyed key differ k x) xs || (keyed key differ k x c || false))
        || (any_two (keyed key differ k) xs || (nat_eq (key c) k && differs_with differ (first_of (λ y. nat_eq (key y) (key c)) xs) c)))
        ≡ ((list_any (keyed key differ k x) xs || any_two (keyed key differ k) xs)
        || (nat_eq (key c) k && differs_with differ (cond (nat_eq (key x) (key c)) (Some x) (first_of (λ y. nat_eq (key y) (key c)) xs)) c))
    by false e s g = rw e (apart (list_any (keyed key differ k x) xs) (nat_eq (key x) k) (differ x c) (any_two (keyed key differ k) xs)
        (differs_with differ (first_of (λ y. nat_eq (key y) (key c)) xs) c)
        (differs_with differ (cond (nat_eq (key x) (key c)) (Some x) (first_of (λ y. nat_eq (key y) (key c)) xs)) c))
    by true e false g =
        let same : key c ≡ k = eqb-true (key c) k e in
        let n : nat_eq (key x) k ≡ false = rw same at g in
        rw (e, g, n) (other (list_any (keyed key differ k x) xs) (differ x c) (any_two (keyed key differ k) xs)
        (differs_with differ (first_of (λ y. nat_eq (key y) (key c)) xs) c))
    by true e true g =
        let same : key c ≡ k = eqb-true (key c) k e in
        let n : nat_eq (key x) k ≡ true = rw same at g in
        rw (e, g, n) (both (list_any (keyed key differ k x) xs) (differ x c) (any_two (keyed key differ k) xs)
        (differs_with differ (first_of (λ y. nat_eq (key y) (key c)) xs) c) (differs_among key differ m xs x c k same n))
