use Rattle.std.proofs.Common.{ℕ, ◌≡◌, ◌<◌, Some}
use Rattle.std.specs.Prelude.{slice_get}
use Rattle.tx_events.specs.declared.Item.{Item}
use Rattle.race_check.proofs.regular.has_item.Given as goal

abbrev pub invariant-earlier : goal.invariant-earlier
invariant-earlier l = (i : ℕ) (a : Item) → i < l.k → slice_get l.items i ≡ Some a → a.t ≡ l.t → ⊥
