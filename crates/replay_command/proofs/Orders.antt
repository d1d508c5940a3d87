-- Orders of which all entries are kept.
use Rattle.std.proofs.Common.{◌≡◌, ◌≤◌, ◌<◌, ℕ, zero, suc, List, [], ◌∷◌, true, false, length, take, refl, sym, ap, ◌∙◌, arith}
use Rattle.std.proofs.lemmas.Bool.{ltb-false}
use Rattle.schedules.specs.Text.{Keeps, most_entries}
use Rattle.schedules.specs.declared.Schedule.{Schedule}

pub taken_all : (n : ℕ) (xs : List ℕ) → length xs ≤ n → take n xs ≡ xs
taken_all zero [] h = refl
taken_all zero (x ∷ xs) h = absurd (omega (arith, h))
taken_all (suc n) [] h = refl
taken_all (suc n) (x ∷ xs) h = ap (λ l. x ∷ l) (taken_all n xs (omega (arith, h)))

-- nothing was left out
pub all_kept : (most : ℕ) (entries : List ℕ) (s : Schedule) → Keeps most entries s → s.has_more ≡ false → (length entries ≤ most) × (s.entries.items ≡ entries)
all_kept most entries s k h =
    let few : length entries ≤ most = ltb-false most (length entries) (sym k.1 ∙ h) in
    (few, k.0 ∙ taken_all most entries few)
