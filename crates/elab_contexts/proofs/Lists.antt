-- Lists with one more behind the others, and with one that is set.
use Rattle.std.proofs.Common.{◌≡◌, refl, subst, ℕ, zero, suc, List, [], ◌∷◌, ◌++◌, length, slice_get, Some}
use Rattle.std.specs.Prelude.{slice_set}
use Rattle.std.proofs.lemmas.Option.{same_Some}

-- what is said of all, and of one more, is said of all with it
pub one_more : {A : Type 0} (P : A → Type 0) (xs : List A) (x : A) → ((i : ℕ) (y : A) → slice_get xs i ≡ Some y → P y) → P x → (i : ℕ) (y : A)
    → slice_get (xs ++ x ∷ []) i ≡ Some y → P y
one_more P [] x h p zero y e = subst P (same_Some x y e) p
one_more P [] x h p (suc i) y e = absurd cc
one_more P (z ∷ xs) x h p zero y e = h zero y e
one_more P (z ∷ xs) x h p (suc i) y e = one_more P xs x (λ j u f. h (suc j) u f) p i y e

-- the same where one is set
pub one_set : {A : Type 0} (P : A → Type 0) (xs : List A) (n : ℕ) (x : A) → ((i : ℕ) (y : A) → slice_get xs i ≡ Some y → P y)
    → ((y : A) → slice_get xs n ≡ Some y → P x) → (i : ℕ) (y : A) → slice_get (slice_set xs n x) i ≡ Some y → P y
one_set P [] n x h p i y e = absurd cc
one_set P (z ∷ xs) zero x h p zero y e = subst P (same_Some x y e) (p z refl)
one_set P (z ∷ xs) zero x h p (suc i) y e = h (suc i) y e
one_set P (z ∷ xs) (suc n) x h p zero y e = h zero y e
one_set P (z ∷ xs) (suc n) x h p (suc i) y e = one_set P xs n x (λ j u f. h (suc j) u f) p i y e

-- and where one stands before the others
pub with_first : {A : Type 0} (P : A → Type 0) (x : A) (xs : List A) → P x → ((i : ℕ) (y : A) → slice_get xs i ≡ Some y → P y) → (i : ℕ) (y : A)
    → slice_get (x ∷ xs) i ≡ Some y → P y
with_first P x xs p h zero y e = subst P (same_Some x y e) p
with_first P x xs p h (suc i) y e = h i y e

-- the same of each with its place

pub one_more_at : {A : Type 0} (P : ℕ → A → Type 0) (xs : List A) (x : A) → ((i : ℕ) (y : A) → slice_get xs i ≡ Some y → P i y) → P (length xs) x → (i : ℕ)
    (y : A) → slice_get (xs ++ x ∷ []) i ≡ Some y → P i y
one_more_at P [] x h p zero y e = subst (P 0) (same_Some x y e) p
one_more_at P [] x h p (suc i) y e = absurd cc
one_more_at P (z ∷ xs) x h p zero y e = h zero y e
one_more_at P (z ∷ xs) x h p (suc i) y e = one_more_at (λ (j : ℕ). P (suc j)) xs x (λ j u f. h (suc j) u f) p i y e

pub one_set_at : {A : Type 0} (P : ℕ → A → Type 0) (xs : List A) (n : ℕ) (x : A) → ((i : ℕ) (y : A) → slice_get xs i ≡ Some y → P i y)
    → P n x → (i : ℕ) (y : A) → slice_get (slice_set xs n x) i ≡ Some y → P i y
one_set_at P [] n x h p i y e = absurd cc
one_set_at P (z ∷ xs) zero x h p zero y e = subst (P 0) (same_Some x y e) p
one_set_at P (z ∷ xs) zero x h p (suc i) y e = h (suc i) y e
one_set_at P (z ∷ xs) (suc n) x h p zero y e = h zero y e
one_set_at P (z ∷ xs) (suc n) x h p (suc i) y e = one_set_at (λ (j : ℕ). P (suc j)) xs n x (λ j u f. h (suc j) u f) p i y e
