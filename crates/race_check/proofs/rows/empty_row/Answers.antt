use Rattle.std.proofs.Common.{ℕ, ◌≡◌, ◌<◌, ◌≤◌, ◌⊎◌, inl, inr, length, replicate, arith}
use Rattle.std.specs.Prelude.{slice_index}
use Rattle.std.proofs.lemmas.Bool.{cases_lt}
use Rattle.std.proofs.lemmas.List.{get_or-replicate, get_or_past, length-replicate}
use Rattle.race_check.proofs.rows.empty_row.Goals as goal

zeros : (n s : ℕ) → slice_index (replicate {A = ℕ} n 0) s ≡ 0
zeros n s = by (cases_lt s n)
  where
    by : (s < n) ⊎ (n ≤ s) → slice_index (replicate {A = ℕ} n 0) s ≡ 0
    by (inl lt) = get_or-replicate n s 0 0 lt
    by (inr le) = let size : length (replicate {A = ℕ} n 0) ≡ n = length-replicate n 0 in let past : length (replicate {A = ℕ} n 0) ≤ s =
        omega (arith, size, le) in get_or_past (replicate {A = ℕ} n 0) s 0 past

pub returns : goal.returns
returns c s = zeros 64 s
