-- What the call needs of a list of items.
use Rattle.std.specs.Prelude.{ℕ, ◌≡◌, ◌<◌, ◌+◌, ◌^◌, List, Some, slice_get}
use Rattle.tx_events.specs.declared.Item.{Item}
use Rattle.tx_events.specs.declared.What.{What}
use Rattle.tx_events.specs.declared.What.TheVariants.{Read, Write, Enter, Leave, Spawned, Joined}
use Rattle.race_check.specs.Races.{Does}
use Rattle.tx_events.specs.declared.TheConstants.{THREAD_LIMIT}

-- the address behind an access's last byte
abbrev pub end_of : What → ℕ
end_of (Read addr size) = addr + size
end_of (Write addr size) = addr + size
end_of Enter = 0
end_of Leave = 0
end_of (Spawned child) = 0
end_of (Joined child) = 0

-- Threads are numbered below 64, accesses end within the addresses, and a thread has no item before it is started.
pub record Regular (items : List Item) : Type 0 where
  pub threads : (i : ℕ) (a : Item) → slice_get items i ≡ Some a → a.t < THREAD_LIMIT
  pub bytes : (i : ℕ) (a : Item) → slice_get items i ≡ Some a → end_of a.what < 2 ^ 64
  pub starts : (i j t child : ℕ) (b : What) → Does items i t (Spawned child) → Does items j child b → i < j

-- a thread that has an item before index n
pub record HasItem (items : List Item) (n t : ℕ) : Type 0 where
  pub at : ℕ
  pub item : Item
  pub there : slice_get items at ≡ Some item
  pub before : at < n
  pub owner : item.t ≡ t

-- it starts a thread that has an item before index n
pub record StartsLate (items : List Item) (what : What) (n : ℕ) : Type 0 where
  pub child : ℕ
  pub is : what ≡ Spawned child
  pub item : HasItem items n child

-- the first n items are regular
pub record RegularTo (items : List Item) (n : ℕ) : Type 0 where
  pub threads : (i : ℕ) (a : Item) → i < n → slice_get items i ≡ Some a → a.t < THREAD_LIMIT
  pub bytes : (i : ℕ) (a : Item) → i < n → slice_get items i ≡ Some a → end_of a.what < 2 ^ 64
  pub starts : (i : ℕ) (a : Item) → i < n → slice_get items i ≡ Some a → StartsLate items a.what (i + 1) → ⊥
