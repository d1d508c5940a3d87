-- Small facts on numbers and indexes.
use Rattle.std.proofs.Common.{ℕ, ◌≡◌, ◌<◌, ◌≤◌, ◌+◌, ◌⊎◌, inl, inr, sym, ◌∙◌, List, Some, length, arith}
use Rattle.std.specs.Prelude.{slice_get}
use Rattle.std.proofs.lemmas.Bool.{cases_lt}
use Rattle.std.proofs.lemmas.Option.{slice_get_past, none-some}

pub below_or_at : (k n : ℕ) → k < n + 1 → (k < n) ⊎ (k ≡ n)
below_or_at k n h = by (cases_lt k n)
  where
    by : (k < n) ⊎ (n ≤ k) → (k < n) ⊎ (k ≡ n)
    by (inl lt) = inl lt
    by (inr le) = inr (omega (arith, h, le))

pub at_or_above : (k n : ℕ) → n ≤ k → (n ≡ k) ⊎ (n + 1 ≤ k)
at_or_above k n h = by (cases_lt n k)
  where
    by : (n < k) ⊎ (k ≤ n) → (n ≡ k) ⊎ (n + 1 ≤ k)
    by (inl lt) = inr (omega (arith, lt))
    by (inr le) = inl (omega (arith, h, le))

pub index_within : {X : Type 0} (xs : List X) (i : ℕ) (x : X) → slice_get xs i ≡ Some x → i < length xs
index_within xs i x h = by (cases_lt i (length xs))
  where
    by : (i < length xs) ⊎ (length xs ≤ i) → i < length xs
    by (inl lt) = lt
    by (inr le) = absurd (none-some x (sym (slice_get_past xs i le) ∙ h))
