-- The list of words while it grows.
use Rattle.std.specs.Prelude.{ℕ, ◌≡◌, ◌<◌, ◌≤◌, ◌⊎◌, List, length, slice_index}
use Rattle.tx_events.specs.declared.Item.{Item}
use Rattle.race_check.specs.Races.{Conflict, Ordered, Race, word_of_byte, Stands, Ascending}

-- the word goes in at this index
pub record Gap (w : ℕ) (ws : List ℕ) (at : ℕ) : Type 0 where
  pub within : at ≤ length ws
  pub below : (k : ℕ) → k < at → slice_index ws k < w
  pub above : at < length ws → w < slice_index ws at

-- one word more, if it was not there
pub record OneMore (w : ℕ) (old new : List ℕ) : Type 0 where
  pub ascending : Ascending new
  pub kept : (v : ℕ) → Stands v old → Stands v new
  pub there : Stands w new
  pub only : (v : ℕ) → Stands v new → (v ≡ w) ⊎ Stands v old

-- the words of the bytes that P holds of more
pub record WordsOf (P : ℕ → Type 0) (old new : List ℕ) : Type 0 where
  pub ascending : Ascending new
  pub kept : (v : ℕ) → Stands v old → Stands v new
  pub there : (x : ℕ) → P x → Stands (word_of_byte x) new
  pub only : (v : ℕ) → Stands v new → ((x : ℕ) × P x × (word_of_byte x ≡ v)) ⊎ Stands v old

-- the words of the races of the first n items
pub record Listed (items : List Item) (words : List ℕ) (n : ℕ) : Type 0 where
  pub ascending : Ascending words
  pub each : (w : ℕ) → Stands w words → (x : ℕ) × (word_of_byte x ≡ w) × Race items x
  pub all : (x m k : ℕ) → Conflict items m k x → m < k → k < n → (Ordered items m k → ⊥) → Stands (word_of_byte x) words
