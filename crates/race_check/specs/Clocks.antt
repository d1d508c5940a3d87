-- For each thread, a row of what leads to its next item.
use Rattle.std.specs.Prelude.{ℕ, ◌≡◌, ◌<◌, ◌⊎◌, Bool, true, false, List, [], length, slice_index, slice_index_or}
use Rattle.tx_events.specs.declared.Item.{Item}
use Rattle.tx_events.specs.declared.What.{What}
use Rattle.tx_events.specs.declared.What.TheVariants.{Spawned}
use Rattle.race_check.specs.Races.{Does}
use Rattle.race_check.specs.Rows.{Down, Right}
use Rattle.race_check.specs.declared.clocks.Clocks.{Clocks}
use Rattle.race_check.specs.declared.rows.Row.{Row}
use Rattle.tx_events.specs.declared.TheConstants.{THREAD_LIMIT}

abbrev pub no_row : Row
no_row = record { latest = [] }

-- row t
abbrev pub row_at : List Row → ℕ → List ℕ
row_at rows t = (slice_index_or rows t no_row).latest

-- the counters of row t, 0 where there is no such row
abbrev pub row_in : List Row → ℕ → ℕ → ℕ
row_in rows t s = slice_index (slice_index_or rows t no_row).latest s

-- item p, before index n, is one of thread t
pub record IsOf (items : List Item) (n t p : ℕ) : Type 0 where
  pub what : What
  pub item : Does items p t what
  pub before : p < n

-- item p, before index n, starts thread t
pub record IsStart (items : List Item) (n t p : ℕ) : Type 0 where
  pub starter : ℕ
  pub item : Does items p starter (Spawned t)
  pub before : p < n

-- item p leads to the next item of thread t, whatever that does
abbrev pub Own : List Item → (n t p : ℕ) → Type 0
Own items n t p = IsOf items n t p ⊎ IsStart items n t p

-- the threads that are marked are those with an item before index n
pub record Begun (items : List Item) (begun : List Bool) (n : ℕ) : Type 0 where
  pub marked : (t : ℕ) → slice_index_or begun t false ≡ true → (p : ℕ) × IsOf items n t p
  pub all : (t p : ℕ) → IsOf items n t p → slice_index_or begun t false ≡ true

-- the rows behind the first n items
pub record Clocked (items : List Item) (clocks : Clocks) (n : ℕ) : Type 0 where
  pub size : length clocks.rows.items ≡ THREAD_LIMIT
  pub begun_size : length clocks.begun.items ≡ THREAD_LIMIT
  pub rows : (t : ℕ) → t < THREAD_LIMIT → Down items (row_in clocks.rows.items t) (Own items n t)
  pub begun : Begun items clocks.begun.items n

-- the same at item n, which is of thread t: its row is that of the item
pub record Reached (items : List Item) (clocks : Clocks) (n t : ℕ) : Type 0 where
  pub size : length clocks.rows.items ≡ THREAD_LIMIT
  pub begun_size : length clocks.begun.items ≡ THREAD_LIMIT
  pub right : Right items (row_at clocks.rows.items t) n
  pub others : (u : ℕ) → u < THREAD_LIMIT → (u ≡ t → ⊥) → Down items (row_in clocks.rows.items u) (Own items n u)
  pub begun : Begun items clocks.begun.items n
