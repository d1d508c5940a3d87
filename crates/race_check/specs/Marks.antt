-- For each byte and thread, the latest of its items that access the byte.
use Rattle.std.specs.Prelude.{ℕ, ◌≡◌, ◌<◌, ◌≤◌, ◌+◌, ◌/◌, ◌%◌, ◌==◌, max, cond, ◌⊎◌, Bool, true, false, List, [], Option, Some, None, slice_get, slice_index}
use Rattle.std.specs.BTreeMap.{get}
use Rattle.std.specs.Ordering.{nat_cmp}
use Rattle.tx_events.specs.declared.Item.{Item}
use Rattle.race_check.specs.Races.{touches, writes}
use Rattle.race_check.specs.declared.rows.Row.{Row}
use Rattle.race_check.specs.declared.tables.Table.{Table}
use Rattle.race_check.specs.declared.marks.Marks.{Marks}
use Rattle.race_check.specs.declared.marks.Seen.{Seen}

abbrev pub latest_in : Option Row → List ℕ
latest_in None = []
latest_in (Some r) = r.latest

-- the counter of row k for thread t
abbrev pub cell : Table → ℕ → ℕ → ℕ
cell m k t = slice_index (latest_in (get nat_cmp m.rows k)) t

-- what is marked at byte x for thread t: the greater of the mark of its group of four bytes, and its own
abbrev pub mark : Marks → ℕ → ℕ → ℕ
mark m x t = max (cell m.groups (x / 4) t) (cell m.bytes x t)

-- bytes that are taken at once: one, or an aligned group of four
abbrev pub IsPiece : (at end : ℕ) → Type 0
IsPiece at end = (end ≡ at + 1) ⊎ ((end ≡ at + 4) × (at % 4 ≡ 0))

-- counters of one thread alone
abbrev pub lone : (t v s : ℕ) → ℕ
lone t v s = cond (s == t) v 0

-- the counter of thread t becomes the greater of two, and the others stay
pub record Raised (t v : ℕ) (old new : ℕ → ℕ) : Type 0 where
  pub kept : old t ≤ new t
  pub gained : v ≤ new t
  pub only : (new t ≡ old t) ⊎ (new t ≡ v)
  pub others : (s : ℕ) → (s ≡ t → ⊥) → new s ≡ old s

-- item k is of thread t, and it reads or writes byte x
pub record Accesses (items : List Item) (write : Bool) (x t k : ℕ) : Type 0 where
  pub item : Item
  pub there : slice_get items k ≡ Some item
  pub owner : item.t ≡ t
  pub touched : touches item.what x ≡ true
  pub written : writes item.what ≡ write

-- one more than the last such index below n, 0 where there is none
pub record Latest (items : List Item) (write : Bool) (x t n v : ℕ) : Type 0 where
  pub above : (k : ℕ) → k < n → Accesses items write x t k → k < v
  pub is : 0 < v → (k : ℕ) × (v ≡ k + 1) × (k < n) × Accesses items write x t k

-- the marks of the first n items
pub record Marked (items : List Item) (seen : Seen) (n : ℕ) : Type 0 where
  pub reads : (x t : ℕ) → Latest items false x t n (mark seen.reads x t)
  pub writes : (x t : ℕ) → Latest items true x t n (mark seen.writes x t)

-- another thread than u is marked with an item that the row does not count
pub record Late (marks : ℕ → ℕ) (row : List ℕ) (u : ℕ) : Type 0 where
  pub thread : ℕ
  pub other : thread ≡ u → ⊥
  pub late : slice_index row thread < marks thread

abbrev pub late_at : Marks → List ℕ → ℕ → ℕ → Type 0
late_at m row u x = Late (mark m x) row u

-- the item races at byte x with an item that is marked
pub record Racing (seen : Seen) (row : List ℕ) (item : Item) (x : ℕ) : Type 0 where
  pub touched : touches item.what x ≡ true
  pub late : late_at seen.writes row item.t x ⊎ ((writes item.what ≡ true) × late_at seen.reads row item.t x)

-- The row gains the counters of the rows of some bytes.
pub record GathersFrom (marks : ℕ → ℕ → ℕ) (from to : ℕ) (old new : ℕ → ℕ) : Type 0 where
  pub kept : (s : ℕ) → old s ≤ new s
  pub gained : (x s : ℕ) → from ≤ x → x < to → marks x s ≤ new s
  pub only : (s : ℕ) → (new s ≡ old s) ⊎ ((x : ℕ) × (from ≤ x) × (x < to) × (new s ≡ marks x s))
