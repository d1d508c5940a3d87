-- Rows of counters: the row of an item tells, for each thread, the items of it that are ordered before.
use Rattle.std.specs.Prelude.{ℕ, ◌≡◌, ◌<◌, ◌≤◌, ◌⊎◌, List, Some, slice_get, slice_index}
use Rattle.tx_events.specs.declared.Item.{Item}
use Rattle.race_check.specs.Races.{Ordered}

-- the row counts item k, which is one of thread t
abbrev pub counts : List ℕ → ℕ → ℕ → Type 0
counts row t k = k < slice_index row t

-- the row of item j: it counts exactly the items that are ordered before j
pub record Right (items : List Item) (row : List ℕ) (j : ℕ) : Type 0 where
  pub sound : (k : ℕ) (a : Item) → slice_get items k ≡ Some a → counts row a.t k → Ordered items k j
  pub whole : (k : ℕ) (a : Item) → slice_get items k ≡ Some a → Ordered items k j → counts row a.t k

-- item p itself, or one that is ordered before it
abbrev pub Upto : List Item → ℕ → ℕ → Type 0
Upto items k p = (k ≡ p) ⊎ Ordered items k p

-- These counters, one for each thread, count exactly the items that P holds of and those that are ordered before one of them.
pub record Down (items : List Item) (counters : ℕ → ℕ) (P : ℕ → Type 0) : Type 0 where
  pub sound : (k : ℕ) (a : Item) → slice_get items k ≡ Some a → k < counters a.t → (p : ℕ) × P p × Upto items k p
  pub whole : (k p : ℕ) (a : Item) → slice_get items k ≡ Some a → P p → Upto items k p → k < counters a.t

-- each counter is the greater of two
pub record Greater (one other new : ℕ → ℕ) : Type 0 where
  pub kept : (s : ℕ) → one s ≤ new s
  pub gained : (s : ℕ) → other s ≤ new s
  pub only : (s : ℕ) → (new s ≡ one s) ⊎ (new s ≡ other s)
