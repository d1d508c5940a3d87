-- Races of a trace: accesses to a byte that no chain of steps orders.
use Rattle.std.specs.Prelude.{ℕ, ◌≡◌, ◌==◌, ◌<◌, ◌+◌, ◌*◌, ◌/◌, Bool, true, false, nat_le, nat_lt, ◌&&◌, ◌||◌, List, [], ◌∷◌, Some, slice_get}
use Rattle.tx_events.specs.declared.Item.{Item}
use Rattle.tx_events.specs.declared.What.{What}
use Rattle.tx_events.specs.declared.What.TheVariants.{Read, Write, Enter, Leave, Spawned, Joined}

-- an item of the trace: what thread t did there
abbrev pub Does : List Item → ℕ → ℕ → What → Type 0
Does items i t what = slice_get items i ≡ Some (record { t = t; what = what })

-- the bytes of an access
abbrev pub touches : What → ℕ → Bool
touches (Read addr size) x = nat_le addr x && nat_lt x (addr + size)
touches (Write addr size) x = nat_le addr x && nat_lt x (addr + size)
touches Enter x = false
touches Leave x = false
touches (Spawned child) x = false
touches (Joined child) x = false

abbrev pub writes : What → Bool
writes (Write addr size) = true
writes (Read addr size) = false
writes Enter = false
writes Leave = false
writes (Spawned child) = false
writes (Joined child) = false

-- Two accesses conflict at a byte: they are of different threads, both touch it, and one of them writes.
pub record Conflict (items : List Item) (i j x : ℕ) : Type 0 where
  pub one : Item
  pub other : Item
  pub at_one : slice_get items i ≡ Some one
  pub at_other : slice_get items j ≡ Some other
  pub apart : (one.t == other.t) ≡ false
  pub in_one : touches one.what x ≡ true
  pub in_other : touches other.what x ≡ true
  pub written : (writes one.what || writes other.what) ≡ true

-- An item of thread t lies in its outer block that was entered at index e, or is its Leave.
pub record InBlock (items : List Item) (t e k : ℕ) : Type 0 where
  pub enters : Does items e t Enter
  pub later : e < k
  pub still_open : (l : ℕ) → e < l → l < k → Does items l t Leave → ⊥

-- Two outer blocks, that of thread t which was left at index l and that of thread u which was entered at index e, contain
-- conflicting accesses.
pub record Meet (items : List Item) (t l u e : ℕ) : Type 0 where
  pub entry : ℕ
  pub whole : InBlock items t entry l
  pub one : ℕ
  pub other : ℕ
  pub byte : ℕ
  pub inside : InBlock items t entry one
  pub before : one < l
  pub there : InBlock items u e other
  pub threads : ((a : What) × Does items one t a) × ((a : What) × Does items other u a)
  pub clash : Conflict items one other byte

-- a step of order between two items
pub data Leads (items : List Item) (i j : ℕ) : Type 0 where
  -- two items of one thread, in order
  same_thread : (t : ℕ) (a b : What) → i < j → Does items i t a → Does items j t b → Leads items i j
  -- the start of a thread, and each item of it
  starts : (t child : ℕ) (b : What) → Does items i t (Spawned child) → Does items j child b → Leads items i j
  -- each item of a thread, and a later join of it
  joins : (t child : ℕ) (a : What) → i < j → Does items i child a → Does items j t (Joined child) → Leads items i j
  -- the Leave of an outer block, and the Enter of a later one that it conflicts with
  blocks : (t u : ℕ) → i < j → Does items i t Leave → Does items j u Enter → Meet items t i u j → Leads items i j

-- Ordered: a chain of such steps
pub data Ordered (items : List Item) (i : ℕ) : ℕ → Type 0 where
  at_once : {j : ℕ} → Leads items i j → Ordered items i j
  and_then : {j k : ℕ} → Ordered items i j → Leads items j k → Ordered items i k

-- A race: two accesses conflict at a byte, and neither is ordered before the other.
pub record Race (items : List Item) (x : ℕ) : Type 0 where
  pub one : ℕ
  pub other : ℕ
  pub conflict : Conflict items one other x
  pub not_before : Ordered items one other → ⊥
  pub not_after : Ordered items other one → ⊥

-- the word of a byte, named by its lowest address
abbrev pub word_of_byte : ℕ → ℕ
word_of_byte x = 8 * (x / 8)

-- the word stands in the list
pub data Stands (w : ℕ) : List ℕ → Type 0 where
  first : {ws : List ℕ} → Stands w (w ∷ ws)
  later : {v : ℕ} {ws : List ℕ} → Stands w ws → Stands w (v ∷ ws)

-- each number is above this one, and they ascend
abbrev pub Ascends : ℕ → List ℕ → Type 0
Ascends n [] = Unit {0}
Ascends n (w ∷ ws) = (n < w) × Ascends w ws

abbrev pub Ascending : List ℕ → Type 0
Ascending [] = Unit {0}
Ascending (w ∷ ws) = Ascends w ws

-- Races: the words that hold a byte of a race, ascending and distinct.
pub record Races (items : List Item) (words : List ℕ) : Type 0 where
  pub ascending : Ascending words
  pub each : (w : ℕ) → Stands w words → (x : ℕ) × (word_of_byte x ≡ w) × Race items x
  pub all : (x : ℕ) → Race items x → Stands (word_of_byte x) words
