-- What stands in a list with one element more, or with one changed.
use Rattle.std.proofs.Common.{◌≡◌, subst, refl, ℕ, zero, suc, List, [], ◌∷◌, ◌++◌, length, slice_get, slice_set, Some}
use Rattle.std.proofs.lemmas.Option.{same_Some}

pub in_longer : {A : Type 0} (P : A → Type 0) (xs : List A) (x : A) (i : ℕ) (y : A) → slice_get (xs ++ x ∷ []) i ≡ Some y → P x
    → (slice_get xs i ≡ Some y → P y) → P y
in_longer P [] x zero y h p f = subst P (same_Some x y h) p
in_longer P [] x (suc i) y h p f = absurd cc
in_longer P (z ∷ xs) x zero y h p f = f h
in_longer P (z ∷ xs) x (suc i) y h p f = in_longer P xs x i y h p f

pub in_changed : {A : Type 0} (P : A → Type 0) (xs : List A) (n : ℕ) (x : A) (i : ℕ) (y : A) → slice_get (slice_set xs n x) i ≡ Some y → P x
    → (slice_get xs i ≡ Some y → P y) → P y
in_changed P [] n x i y h p f = absurd cc
in_changed P (z ∷ xs) zero x zero y h p f = subst P (same_Some x y h) p
in_changed P (z ∷ xs) zero x (suc i) y h p f = f h
in_changed P (z ∷ xs) (suc n) x zero y h p f = f h
in_changed P (z ∷ xs) (suc n) x (suc i) y h p f = in_changed P xs n x i y h p f

pub last_item : {A : Type 0} (xs : List A) (x : A) → slice_get (xs ++ x ∷ []) (length xs) ≡ Some x
last_item [] x = refl
last_item (y ∷ ys) x = last_item ys x
