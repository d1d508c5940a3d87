use Rattle.std.proofs.Common.{◌≡◌, ℕ, [], length}
use Rattle.own_table.specs.Stripes.{records_at}
use Rattle.own_table.proofs.stripes.free_stripes.Given as goal

abbrev pub invariant-loop-stripe : goal.invariant-loop-stripe
invariant-loop-stripe l = (length l.stripes.items ≡ l._stripe) × ((s : ℕ) → records_at l.stripes.items s ≡ [])
