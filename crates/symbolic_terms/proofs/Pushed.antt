-- A list with one item more.
use Rattle.std.proofs.Common.{ℕ, zero, suc, ◌≡◌, List, [], ◌∷◌, ◌++◌, Some, length, slice_get, sym, subst, refl}

still : {A : Type 0} (xs : List A) (x : A) (n : ℕ) (y : A) → slice_get xs n ≡ Some y → slice_get (xs ++ x ∷ []) n ≡ Some y
still [] x n y e = absurd cc
still (z ∷ xs) x zero y e = e
still (z ∷ xs) x (suc n) y e = still xs x n y e

last : {A : Type 0} (xs : List A) (x : A) → slice_get (xs ++ x ∷ []) (length xs) ≡ Some x
last [] x = refl
last (y ∷ xs) x = last xs x

-- what stands in the shorter list stands in the longer one
pub within : {A : Type 0} (new xs : List A) (x : A) → new ≡ xs ++ x ∷ [] → (n : ℕ) (y : A) → slice_get xs n ≡ Some y → slice_get new n ≡ Some y
within new xs x p n y e = subst (λ z. slice_get z n ≡ Some y) (sym p) (still xs x n y e)

pub alike : {A : Type 0} (new old : List A) → new ≡ old → (n : ℕ) (y : A) → slice_get old n ≡ Some y → slice_get new n ≡ Some y
alike new old p n y e = subst (λ z. slice_get z n ≡ Some y) (sym p) e

pub at_end : {A : Type 0} (new xs : List A) (x : A) → new ≡ xs ++ x ∷ [] → slice_get new (length xs) ≡ Some x
at_end new xs x p = subst (λ z. slice_get z (length xs) ≡ Some x) (sym p) (last xs x)
