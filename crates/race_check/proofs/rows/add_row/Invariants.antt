use Rattle.std.proofs.Common.{ℕ, ◌≡◌, ◌<◌, ◌≤◌, ◌⊎◌, length}
use Rattle.std.specs.Prelude.{slice_index}
use Rattle.race_check.proofs.rows.add_row.Given as goal

abbrev pub invariant-threads : goal.invariant-threads
invariant-threads l = record {
  size : length l.row ≡ length l.fn.row;
  kept : (k : ℕ) → slice_index l.fn.row k ≤ slice_index l.row k;
  gained : (k : ℕ) → k < l.s → slice_index l.other k ≤ slice_index l.row k;
  only : (k : ℕ) → (slice_index l.row k ≡ slice_index l.fn.row k) ⊎ (slice_index l.row k ≡ slice_index l.other k);
}
