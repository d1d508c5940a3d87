-- Blocks that have been left, by the bytes that they access.
use Rattle.std.specs.Prelude.{ℕ, ◌≡◌, ◌<◌, ◌≤◌, ◌&&◌, ◌⊎◌, Bool, true, false, List}
use Rattle.tx_events.specs.declared.Item.{Item}
use Rattle.tx_events.specs.declared.What.{What}
use Rattle.tx_events.specs.declared.What.TheVariants.{Enter, Leave}
use Rattle.race_check.specs.Marks.{mark}
use Rattle.race_check.specs.Races.{Does, InBlock, touches, writes}
use Rattle.race_check.specs.Rows.{Down, Greater}
use Rattle.race_check.specs.declared.blocks.Blocks.{Blocks}

-- a write of the byte; or any access to it
abbrev pub hits : (write : Bool) → What → ℕ → Bool
hits true what x = touches what x && writes what
hits false what x = touches what x

-- an access to the byte that conflicts with writes of another thread; or one that conflicts with any of its accesses
abbrev pub against : (write : Bool) → What → ℕ → Bool
against true what x = touches what x
against false what x = touches what x && writes what

-- the block that is left at index l, before index n, has an access that hits the byte
pub record IsBlock (items : List Item) (write : Bool) (x n l : ℕ) : Type 0 where
  pub thread : ℕ
  pub left : Does items l thread Leave
  pub within : l < n
  pub entry : ℕ
  pub whole : InBlock items thread entry l
  pub one : ℕ
  pub what : What
  pub item : Does items one thread what
  pub inside : InBlock items thread entry one
  pub before : one < l
  pub hit : hits write what x ≡ true

-- the rows of the blocks that write a byte, and of those that access it
abbrev pub rows_of : Blocks → Bool → ℕ → ℕ → ℕ
rows_of b true = mark b.writers
rows_of b false = mark b.users

-- the rows behind the first n items
abbrev pub Blocked : List Item → Blocks → ℕ → Type 0
Blocked items b n = (write : Bool) (x : ℕ) → Down items (rows_of b write x) (IsBlock items write x n)

-- thread t has an access between two indexes that hits the byte
pub record IsUsed (items : List Item) (write : Bool) (t from to x : ℕ) : Type 0 where
  pub one : ℕ
  pub what : What
  pub item : Does items one t what
  pub behind : from < one
  pub before : one < to
  pub hit : hits write what x ≡ true

-- the same while the block of thread t that is left at index l is put in: its accesses between two indexes are
abbrev pub Putting : List Item → Blocks → (t l from to : ℕ) → Type 0
Putting items b t l from to = (write : Bool) (x : ℕ) → Down items (rows_of b write x)
    (λ p. IsBlock items write x l p ⊎ ((p ≡ l) × IsUsed items write t from to x))

-- The rows of the bytes that are hit gain the counters of one more; the others stay.
pub record Adds (hit : ℕ → Bool) (row : ℕ → ℕ) (old new : ℕ → ℕ → ℕ) : Type 0 where
  pub there : (x : ℕ) → hit x ≡ true → Greater (old x) row (new x)
  pub others : (x s : ℕ) → hit x ≡ false → new x s ≡ old x s

-- thread t enters a block before index l, and does not leave it between
pub record Enters (items : List Item) (t l e : ℕ) : Type 0 where
  pub item : Does items e t Enter
  pub earlier : e < l
  pub still_open : (m : ℕ) → e < m → m < l → Does items m t Leave → ⊥

-- the first such index; or there is none
pub record First (items : List Item) (t l e : ℕ) : Type 0 where
  pub enters : Enters items t l e
  pub first : (f : ℕ) → Enters items t l f → e ≤ f

-- item p leads to the Enter of thread u at index j: the block that is left at p conflicts with an access of the block that
-- begins at j, before index n
pub record IsMet (items : List Item) (j u n p : ℕ) : Type 0 where
  pub other : ℕ
  pub what : What
  pub item : Does items other u what
  pub later : j < other
  pub before : other < n
  pub still_open : (l : ℕ) → j < l → l < other → Does items l u Leave → ⊥
  pub write : Bool
  pub byte : ℕ
  pub hit : against write what byte ≡ true
  pub block : IsBlock items write byte j p

-- The row gains the counters of the blocks that an access conflicts with.
pub record Gathers (b : Blocks) (what : What) (old new : ℕ → ℕ) : Type 0 where
  pub kept : (s : ℕ) → old s ≤ new s
  pub gained : (write : Bool) (x s : ℕ) → against write what x ≡ true → rows_of b write x s ≤ new s
  pub only : (s : ℕ) → (new s ≡ old s) ⊎ ((write : Bool) × (x : ℕ) × (against write what x ≡ true) × (new s ≡ rows_of b write x s))
