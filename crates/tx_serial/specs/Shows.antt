-- The machine stands for a world in which each outermost atomic block is one indivisible step.
use Rattle.std.specs.Prelude.{ℕ, zero, suc, ◌≡◌, ◌==◌, ◌<◌, ◌≤◌, ◌⊎◌, Bool, true, false, List, [], ◌∷◌, Option, Some, None}
use Rattle.tx_events.specs.declared.BlockKind.{BlockKind}
use Rattle.tx_events.specs.declared.BlockKind.TheVariants.{NoExcept, Commit, Cancel}
use Rattle.tx_events.specs.declared.Event.{Event}
use Rattle.tx_events.specs.declared.Event.TheVariants.{
  Silent,
  Load,
  Store,
  Out,
  Inp,
  Spawn,
  Join,
  BeginAtomic,
  EndAtomic,
  Raise,
  BeginSync,
  EndSync,
  Done,
  Stop,
}
use Rattle.tx_events.specs.declared.Reply.TheVariants.{Nothing}
use Rattle.tx_events.specs.Thread.{Thread}
use Rattle.tx_events.specs.Memory.{MemoryLayout, word_bound}
use Rattle.tx_events.specs.Alone.{Inner, Inside, begin, newest}
use Rattle.tx_events.specs.World.{World, Alive, SilentSteps, Replays}
use Rattle.tx_serial.specs.Machine.{Machine, Local, Tx, NoTx, OpenTx, GivingUp, Closing, Save, kept_or, oldest, held_by, wrote_by, live_in, tx_in, birth_of}

-- The world's memory is the machine's, with every transaction that is open or giving up put back to its outermost
-- savepoint.

abbrev pub saves_of : {S : Type 0} → Tx S → List Save
saves_of NoTx = []
saves_of (OpenTx b k ss) = ss
saves_of (GivingUp b k ss) = ss
saves_of (Closing b) = []

abbrev pub put_back_by : {S : Type 0} → Option (Local S) → ℕ → ℕ → ℕ
put_back_by None x v = v
put_back_by (Some l) x v = kept_or (oldest (saves_of l.tx) x) v

-- the word x, which holds v, with the transactions of the threads below n put back
abbrev pub put_back : {S : Type 0} → (ℕ → Option (Local S)) → ℕ → ℕ → ℕ → ℕ
put_back threads zero x v = v
put_back threads (suc n) x v = put_back_by (threads n) x (put_back threads n x v)

-- a Raise that cancels

abbrev pub kind_cancels : BlockKind → Bool → Bool
kind_cancels NoExcept c = false
kind_cancels Commit c = false
kind_cancels Cancel c = c

abbrev pub cancelling : Event → Bool
cancelling (Raise kind c) = kind_cancels kind c
cancelling Silent = false
cancelling (Load addr size vol) = false
cancelling (Store addr size value vol) = false
cancelling (Out byte) = false
cancelling Inp = false
cancelling (Spawn f x) = false
cancelling (Join id) = false
cancelling (BeginAtomic kind) = false
cancelling EndAtomic = false
cancelling BeginSync = false
cancelling EndSync = false
cancelling Done = false
cancelling (Stop e) = false

-- Savepoints of the machine and copies of the indivisible block.

-- as many savepoints as copies
abbrev pub Even : List Save → List (ℕ → ℕ) → Type 0
Even [] [] = Unit {0}
Even [] (c ∷ cs) = ⊥
Even (s ∷ ss) [] = ⊥
Even (s ∷ ss) (c ∷ cs) = Even ss cs

-- at this word, which holds v: each savepoint put back gives what the copy has
abbrev pub LevelsAt : ℕ → ℕ → List Save → List (ℕ → ℕ) → Type 0
LevelsAt x v [] [] = Unit {0}
LevelsAt x v [] (c ∷ cs) = ⊥
LevelsAt x v (s ∷ ss) [] = ⊥
LevelsAt x v (s ∷ ss) (c ∷ cs) = (c x ≡ kept_or (s x) v) × LevelsAt x (c x) ss cs

-- no savepoint notes the word
abbrev pub NoneAt : ℕ → List Save → Type 0
NoneAt x [] = Unit {0}
NoneAt x (s ∷ ss) = (s x ≡ None) × NoneAt x ss

-- What a thread of the machine is to the thread of the world, whose state is `start`.

-- the kept state is reached from it by silent steps and the outermost BeginAtomic
pub record Began {S : Type 0} (a : Thread S) (start kept : S) : Type 0 where
  pub before : S
  pub silents : SilentSteps a start before
  pub kind : BlockKind
  pub begins : a.next before ≡ BeginAtomic kind
  pub kept_is : kept ≡ a.after before Nothing

-- An open transaction has done the first steps of the block alone, from the kept state and on the world's memory,
-- `outside`. Those accessed exactly the held words and stored to exactly those held for writing. On the held words the
-- machine's memory is the memory of that run, or, where a cancelling Raise is next and the word is put back already,
-- its newest copy; and each savepoint put back gives what the copy has.
pub record InBlock {S : Type 0} (a : Thread S) (p : MemoryLayout) (memory outside : ℕ → ℕ) (start : S) (l : Local S) (k : S) (ss : List Save) : Type 0 where
  pub began : Began a start k
  pub inner : Inner S
  pub run : Inside a p (begin k outside) inner
  pub state : inner.state ≡ l.state
  pub accessed : (x : ℕ) → inner.accessed x ≡ l.held x
  pub stored : (x : ℕ) → inner.stored x ≡ l.wrote x
  pub even : Even ss inner.copies
  pub agrees : (x : ℕ) → l.held x ≡ true → (inner.memory x ≡ memory x) ⊎
      ((cancelling (a.next l.state) ≡ true) × (newest inner.copies inner.memory x ≡ memory x))
  pub levels : (x : ℕ) → l.held x ≡ true → LevelsAt x (memory x) ss inner.copies
  pub unsaved : (x : ℕ) → l.wrote x ≡ false → NoneAt x ss

-- A transaction that gives up: put back to the outermost savepoint, each word that is still held is the world's.
pub record Giving {S : Type 0} (a : Thread S) (memory outside : ℕ → ℕ) (start : S) (l : Local S) (k : S) (ss : List Save) : Type 0 where
  pub began : Began a start k
  pub undone : (x : ℕ) → l.held x ≡ true → outside x ≡ kept_or (oldest ss x) (memory x)
  pub unsaved : (x : ℕ) → l.wrote x ≡ false → oldest ss x ≡ None

-- Without a transaction, or with a closing one, the thread is reached from the world's by silent steps.
abbrev pub ShowsTx : {S : Type 0} → Thread S → MemoryLayout → (ℕ → ℕ) → (ℕ → ℕ) → S → Local S → Tx S → Type 0
ShowsTx a p memory outside start l NoTx = SilentSteps a start l.state × ((x : ℕ) → l.held x ≡ false)
ShowsTx a p memory outside start l (OpenTx b k ss) = InBlock a p memory outside start l k ss
ShowsTx a p memory outside start l (GivingUp b k ss) = Giving a memory outside start l k ss
ShowsTx a p memory outside start l (Closing b) = SilentSteps a start l.state

pub record ShowsLocal {S : Type 0} (a : Thread S) (p : MemoryLayout) (memory outside : ℕ → ℕ) (l : Local S) (s : Alive S) : Type 0 where
  pub ended : s.ended ≡ l.ended
  pub holds : (x : ℕ) → l.wrote x ≡ true → l.held x ≡ true
  pub bounded : (x : ℕ) → l.held x ≡ true → x < word_bound p
  pub tx : ShowsTx a p memory outside s.state l l.tx

abbrev pub ShowsThread : {S : Type 0} → Thread S → MemoryLayout → (ℕ → ℕ) → (ℕ → ℕ) → Option (Local S) → Option (Alive S) → Type 0
ShowsThread a p memory outside None None = Unit {0}
ShowsThread a p memory outside None (Some s) = ⊥
ShowsThread a p memory outside (Some l) None = ⊥
ShowsThread a p memory outside (Some l) (Some s) = ShowsLocal a p memory outside l s

-- While no end has come:
pub record Stands {S : Type 0} (a : Thread S) (p : MemoryLayout) (m : Machine S) (w : World S) : Type 0 where
  -- the lock's holder and depth are equal, and so are the started threads (and, in `threads`, the ended ones)
  pub lock : w.lock ≡ m.lock
  pub started : w.started ≡ m.started
  pub fresh : (u : ℕ) → m.started ≤ u → m.threads u ≡ None
  -- the world's memory is the machine's with the transactions put back
  pub memory : (x : ℕ) → w.memory x ≡ put_back m.threads m.started x (m.memory x)
  -- each thread is what its transaction makes of the world's thread
  pub threads : (u : ℕ) → ShowsThread a p m.memory w.memory (m.threads u) (w.threads u)
  -- where a word is held for writing, no other thread holds it
  pub apart : (t u x : ℕ) → (u == t) ≡ false → wrote_by (m.threads t) x ≡ true → held_by (m.threads u) x ≡ false
  -- the births of all transactions are distinct and below the next birth
  pub drawn : (t : ℕ) → tx_in (m.threads t) ≡ true → birth_of (m.threads t) < m.births
  pub distinct : (t u : ℕ) → (u == t) ≡ false → tx_in (m.threads t) ≡ true → tx_in (m.threads u) ≡ true → birth_of (m.threads t) ≡ birth_of (m.threads u) → ⊥
  -- where a thread holds the lock, no other thread has a transaction that is open or giving up
  pub alone : (t u : ℕ) → m.lock.holder ≡ Some t → (u == t) ≡ false → live_in (m.threads u) ≡ false

-- The machine stands for this world: output, input left and end are equal, and, where no end has come, the rest is shown.
pub record Shows {S : Type 0} (a : Thread S) (p : MemoryLayout) (m : Machine S) (w : World S) : Type 0 where
  pub out : w.out ≡ m.out
  pub input : w.input ≡ m.input
  pub end : w.end ≡ m.end
  pub going : m.end ≡ None → Stands a p m w

-- The order of the machine is enabled step by step from the start, and leads to a world that the machine stands for.
pub record ShownByReplay {S : Type 0} (a : Thread S) (p : MemoryLayout) (start : World S) (m : Machine S) : Type 0 where
  pub world : World S
  pub replays : Replays a p start m.order world
  pub shows : Shows a p m world
