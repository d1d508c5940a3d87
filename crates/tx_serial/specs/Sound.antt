-- What holds of each machine, whatever the world: births, the blocks that are open, and the words that are held.
use Rattle.std.specs.Prelude.{ℕ, ◌≡◌, ◌==◌, ◌<◌, ◌≤◌, Bool, true, false, length, List, [], ◌∷◌, Option, Some, None}
use Rattle.tx_events.specs.Thread.{Thread, atomics}
use Rattle.tx_events.specs.Memory.{MemoryLayout, word_bound}
use Rattle.tx_serial.specs.Machine.{Machine, Local, Tx, NoTx, OpenTx, GivingUp, Closing, Save, tx_in, birth_of, least}

-- the kept state stands just after an outermost BeginAtomic
abbrev pub IsKept : {S : Type 0} → (S → Type 0) → Thread S → S → Type 0
IsKept R a k = R k × (atomics (a.blocks k) ≡ 1)

abbrev pub is_some_save : List Save → Bool
is_some_save [] = false
is_some_save (s ∷ ss) = true

-- no transaction: no atomic block is open, and no word is held; open: one savepoint for each atomic block, and at least
-- one; giving up and closing: some word is still held
abbrev pub SoundTx : {S : Type 0} → (S → Type 0) → Thread S → MemoryLayout → Local S → Tx S → Type 0
SoundTx R a p l NoTx = (atomics (a.blocks l.state) ≡ 0) × ((x : ℕ) → l.held x ≡ false)
SoundTx R a p l (OpenTx b k ss) = IsKept R a k × (atomics (a.blocks l.state) ≡ length ss) × (is_some_save ss ≡ true)
SoundTx R a p l (GivingUp b k ss) = IsKept R a k × ((x : ℕ) × (least l.held (word_bound p) ≡ Some x))
SoundTx R a p l (Closing b) = (atomics (a.blocks l.state) ≡ 0) × ((x : ℕ) × (least l.held (word_bound p) ≡ Some x))

-- the state is a reached one, each held word is below the bound, and a word held for writing is held
pub record SoundLocal {S : Type 0} (R : S → Type 0) (a : Thread S) (p : MemoryLayout) (l : Local S) : Type 0 where
  pub reached : R l.state
  pub bounded : (x : ℕ) → l.held x ≡ true → x < word_bound p
  pub holds : (x : ℕ) → l.wrote x ≡ true → l.held x ≡ true
  pub tx : SoundTx R a p l l.tx

abbrev pub SoundThread : {S : Type 0} → (S → Type 0) → Thread S → MemoryLayout → Option (Local S) → Type 0
SoundThread R a p None = Unit {0}
SoundThread R a p (Some l) = SoundLocal R a p l

-- each thread is sound, the numbers from the next one on are free, and the births of all transactions are distinct and
-- below the next birth
pub record Sound {S : Type 0} (R : S → Type 0) (a : Thread S) (p : MemoryLayout) (m : Machine S) : Type 0 where
  pub threads : (t : ℕ) → SoundThread R a p (m.threads t)
  pub fresh : (t : ℕ) → m.started ≤ t → m.threads t ≡ None
  pub drawn : (t : ℕ) → tx_in (m.threads t) ≡ true → birth_of (m.threads t) < m.births
  pub distinct : (t u : ℕ) → (u == t) ≡ false → tx_in (m.threads t) ≡ true → tx_in (m.threads u) ≡ true → birth_of (m.threads t) ≡ birth_of (m.threads u) → ⊥
