use Rattle.std.proofs.Common.{ℕ, ◌≡◌, ◌<◌, ◌≤◌}
use Rattle.std.specs.Prelude.{slice_index}
use Rattle.race_check.proofs.tables.is_above.Given as goal

abbrev pub invariant-threads : goal.invariant-threads
invariant-threads l = (k : ℕ) → k < l.s → (k ≡ l.t → ⊥) → slice_index l.marks k ≤ slice_index l.row k
