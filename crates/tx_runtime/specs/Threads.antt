-- What a started thread of the runtime shows of itself.
use Rattle.std.specs.Prelude.{ℕ, ◌≡◌, ◌<◌, ◌≤◌, length, Bool, true, false, ◌&&◌, is_some, List, Option, Some, None, slice_get}
use Rattle.std.specs.List.{list_all}
use Rattle.tx_events.specs.declared.TheConstants.{THREAD_LIMIT}
use Rattle.tx_events.specs.Memory.{MemoryLayout, can_access}
use Rattle.own_table.specs.declared.hold.Mode.{Mode}
use Rattle.own_table.specs.declared.hold.Mode.TheVariants.{Read, Write}
use Rattle.own_table.specs.declared.table.Holders.{Holders}
use Rattle.own_table.specs.Table.{hold_of, thread_limit}
use Rattle.undo_log.specs.Notes.{can_put_back}
use Rattle.undo_log.specs.View.{notes_of, marks_of}
use Rattle.tx_serial.specs.Machine.{Save, Tx, NoTx, OpenTx, GivingUp, Closing, Local, Waits, no_waits}
use Rattle.tx_runtime.specs.declared.thread.ThreadSlot.{ThreadSlot}
use Rattle.tx_runtime.specs.declared.thread.Transaction.{Transaction}
use Rattle.tx_runtime.specs.declared.thread.Stage.{Stage}
use Rattle.tx_runtime.specs.declared.thread.Stage.TheVariants.{Open, Undoing, Releasing}
use Rattle.tx_runtime.specs.declared.thread.WaitCount.{WaitCount}
use Rattle.tx_runtime.specs.Saves.{saves_of, marks_fit, begins_at}

abbrev pub is_write : Option Mode → Bool
is_write None = false
is_write (Some Read) = false
is_write (Some Write) = true

-- the words that a thread holds, and those that it holds for writing
abbrev pub held_in : Holders → ℕ → ℕ → Bool
held_in holders t x = is_some (hold_of holders t x)

abbrev pub wrote_in : Holders → ℕ → ℕ → Bool
wrote_in holders t x = is_write (hold_of holders t x)

abbrev pub tx_by : {S : Type 0} → Stage → ℕ → S → List Save → Tx S
tx_by Open b k ss = OpenTx b k ss
tx_by Undoing b k ss = GivingUp b k ss
tx_by Releasing b k ss = Closing b

abbrev pub tx_of : {K S : Type 0} → (K → S) → Option (Transaction K) → List Save → Tx S
tx_of saved None ss = NoTx
tx_of saved (Some x) ss = tx_by x.stage x.birth (saved x.kept) ss

abbrev pub waits_of : WaitCount → Waits
waits_of w = record { word = w.word; least = w.least; count = w.turns }

-- what thread t is in the machine, where these are all holds
abbrev pub local_of : {A K S : Type 0} → (A → S) → (K → S) → Holders → ℕ → ThreadSlot A K → Local S
local_of state saved holders t s = record {
  state = state s.actor;
  ended = s.ended;
  held = held_in holders t;
  wrote = wrote_in holders t;
  tx = tx_of saved s.tx (saves_of s.log);
}

abbrev pub stage_of : {K : Type 0} → Option (Transaction K) → Option Stage
stage_of None = None
stage_of (Some x) = Some x.stage

abbrev pub birth_in : {K : Type 0} → Option (Transaction K) → ℕ
birth_in None = 0
birth_in (Some x) = x.birth

-- the transaction has ended: closing where the thread holds a word, else gone
abbrev pub closed_by : {S : Type 0} → Bool → ℕ → Tx S
closed_by true b = Closing b
closed_by false b = NoTx

-- open or giving up
abbrev pub undoes : Stage → Bool
undoes Open = true
undoes Undoing = true
undoes Releasing = false

abbrev pub has_saves : {K : Type 0} → Option (Transaction K) → Bool
has_saves None = false
has_saves (Some x) = undoes x.stage

-- each note is of a word of the memory, all notes are of a savepoint, and there is one exactly where a transaction can be put back
abbrev pub is_sound : {A K : Type 0} → MemoryLayout → ThreadSlot A K → Bool
is_sound p s = can_put_back p (notes_of s.log) && begins_at (notes_of s.log) (marks_of s.log) && marks_fit (has_saves s.tx) (marks_of s.log)

abbrev pub local_in : {A K S : Type 0} → (A → S) → (K → S) → Holders → ℕ → Option (ThreadSlot A K) → Option (Local S)
local_in state saved holders t None = None
local_in state saved holders t (Some s) = Some (local_of state saved holders t s)

-- the started threads by their numbers
unfoldable pub threads_of : {A K S : Type 0} → (A → S) → (K → S) → Holders → List (ThreadSlot A K) → ℕ → Option (Local S)
threads_of state saved holders threads t = local_in state saved holders t (slice_get threads t)

abbrev pub waits_in : {A K : Type 0} → Option (ThreadSlot A K) → Waits
waits_in None = no_waits
waits_in (Some s) = waits_of s.waits

-- the waits by thread numbers
unfoldable pub waits_by : {A K : Type 0} → List (ThreadSlot A K) → ℕ → Waits
waits_by threads t = waits_in (slice_get threads t)

-- The parts of a runtime fit together: as many threads as the table has numbers for may be started; a number without a
-- thread holds nothing; each held word is a word of the memory; and each thread is sound.
pub record IsWhole {A K : Type 0} (p : MemoryLayout) (limit : ℕ) (holders : Holders) (threads : List (ThreadSlot A K)) : Type 0 where
  pub fits : limit ≡ p.limit
  pub few : limit ≤ THREAD_LIMIT
  pub numbers : thread_limit holders ≡ limit
  pub started : length threads ≤ limit
  pub some : 0 < length threads
  pub free : (u x : ℕ) → length threads ≤ u → hold_of holders u x ≡ None
  pub words : (u x : ℕ) → held_in holders u x ≡ true → can_access p x 8 ≡ true
  pub sound : list_all (is_sound p) threads ≡ true
