-- A trace that is kept turn by turn: of each turn is known the thread, its next event, the turn's kind and the program's end.
use Rattle.std.specs.Prelude.{ℕ, ◌==◌, ◌+◌, ◌-◌, cond, List, [], ◌∷◌, ◌++◌, Option, Some, None}
use Rattle.std.specs.Option.{option_map}
use Rattle.tx_events.specs.declared.End.{End}
use Rattle.tx_events.specs.declared.Event.{Event}
use Rattle.tx_events.specs.declared.Event.TheVariants.{
  Silent,
  Load,
  Store,
  Out,
  Inp,
  Spawn,
  Join,
  BeginAtomic,
  EndAtomic,
  Raise,
  BeginSync,
  EndSync,
  Done,
  Stop,
}
use Rattle.tx_events.specs.declared.Item.{Item}
use Rattle.tx_events.specs.declared.TurnKind.{TurnKind}
use Rattle.tx_events.specs.declared.TurnKind.TheVariants.{Ran, Waited, BlockWait, JoinWait, Rolled, Undone, Released, Idle}
use Rattle.tx_events.specs.declared.What.{What}
use Rattle.tx_events.specs.declared.What.TheVariants.{Read, Write, Enter, Leave, Spawned, Joined}
use Rattle.tx_events.specs.Memory.{MemoryLayout, update}
use Rattle.tx_events.specs.Thread.{Thread}
use Rattle.tx_serial.specs.Machine.{Machine}
use Rattle.tx_serial.specs.Run.{state_in}
use Rattle.tx_serial.specs.Trace.{item_if}
use Rattle.tx_serial.specs.Turn.{Slot, turn, number_of}

-- What is kept of a thread: how many of its blocks are open, and how many of them are atomic; how many were open once it
-- had entered its outermost atomic block; and what it has accessed in that block since.
pub record Kept : Type 0 where
  pub open_blocks : ℕ
  pub atomic_blocks : ℕ
  pub at_entry : ℕ
  pub accesses : List What

abbrev pub nothing_kept : Kept
nothing_kept = record { open_blocks = 0; atomic_blocks = 0; at_entry = 0; accesses = [] }

-- The trace so far, what is kept of each thread, how many threads were started, and of the turn that comes its thread and
-- that thread's next event, if it was started.
pub record Keeping : Type 0 where
  pub items : List Item
  pub threads : ℕ → Kept
  pub started : ℕ
  pub thread : ℕ
  pub event : Option Event

abbrev pub not_kept : Keeping
not_kept = record { items = []; threads = λ t. nothing_kept; started = 1; thread = 0; event = None }

-- these items of thread t
abbrev pub named : ℕ → List What → List Item
named t [] = []
named t (w ∷ ws) = record { t = t; what = w } ∷ named t ws

-- A step that was executed: the thread after it.

-- an access is kept where an atomic block is open
abbrev pub with_access : What → Kept → Kept
with_access w x = record x { accesses = cond (x.atomic_blocks == 0) x.accesses (x.accesses ++ w ∷ []) }

abbrev pub with_atomic : Kept → Kept
with_atomic x = record {
  open_blocks = x.open_blocks + 1;
  atomic_blocks = x.atomic_blocks + 1;
  at_entry = cond (x.atomic_blocks == 0) (x.open_blocks + 1) x.at_entry;
  accesses = cond (x.atomic_blocks == 0) [] x.accesses;
}

abbrev pub without_atomic : Kept → Kept
without_atomic x = record x { open_blocks = x.open_blocks - 1; atomic_blocks = x.atomic_blocks - 1 }

abbrev pub kept_after : Event → Kept → Kept
kept_after (Load addr size vol) x = with_access (Read addr size) x
kept_after (Store addr size value vol) x = with_access (Write addr size) x
kept_after (BeginAtomic kind) x = with_atomic x
kept_after EndAtomic x = without_atomic x
kept_after (Raise kind cancels) x = without_atomic x
kept_after BeginSync x = record x { open_blocks = x.open_blocks + 1 }
kept_after EndSync x = record x { open_blocks = x.open_blocks - 1 }
kept_after Silent x = x
kept_after (Out byte) x = x
kept_after Inp x = x
kept_after (Spawn f arg) x = x
kept_after (Join id) x = x
kept_after Done x = x
kept_after (Stop end) x = x

-- the trace gains an access outside atomic blocks at once, and a whole atomic block at its end
abbrev pub access_outside : ℕ → What → Kept → List Item
access_outside t w x = item_if (x.atomic_blocks == 0) t w

-- the block as far as it went, and its Leave, if it was left; it is an outer one where no other block was open
abbrev pub block_so_far : ℕ → Kept → List Item
block_so_far t x = item_if (x.at_entry == 1) t Enter ++ named t x.accesses

abbrev pub whole_block : ℕ → Kept → List Item
whole_block t x = block_so_far t x ++ item_if (x.at_entry == 1) t Leave

abbrev pub gained : ℕ → ℕ → Event → Kept → List Item
gained t started (Load addr size vol) x = access_outside t (Read addr size) x
gained t started (Store addr size value vol) x = access_outside t (Write addr size) x
gained t started EndAtomic x = cond (x.atomic_blocks == 1) (whole_block t x) []
gained t started (Raise kind cancels) x = cond (x.atomic_blocks == 1) (whole_block t x) []
gained t started BeginSync x = item_if (x.open_blocks == 0) t Enter
gained t started EndSync x = item_if (x.open_blocks == 1) t Leave
gained t started (Spawn f arg) x = record { t = t; what = Spawned started } ∷ []
gained t started (Join id) x = record { t = t; what = Joined (number_of id) } ∷ []
gained t started (BeginAtomic kind) x = []
gained t started Silent x = []
gained t started (Out byte) x = []
gained t started Inp x = []
gained t started Done x = []
gained t started (Stop end) x = []

abbrev pub started_after : Event → ℕ → ℕ
started_after (Spawn f arg) n = n + 1
started_after (Load addr size vol) n = n
started_after (Store addr size value vol) n = n
started_after (BeginAtomic kind) n = n
started_after EndAtomic n = n
started_after (Raise kind cancels) n = n
started_after BeginSync n = n
started_after EndSync n = n
started_after Silent n = n
started_after (Out byte) n = n
started_after Inp n = n
started_after (Join id) n = n
started_after Done n = n
started_after (Stop end) n = n

-- A turn that was taken.

-- the transaction gives up: the thread will stand again just after its outermost BeginAtomic, and nothing of what it did is kept
abbrev pub given_up : Kept → Kept
given_up x = record { open_blocks = x.at_entry; atomic_blocks = 1; at_entry = x.at_entry; accesses = [] }

-- the turn of a thread whose next event was this one, by its kind and the program's end
abbrev pub kept_told : Event → TurnKind → Option End → Kept → Kept
kept_told e Ran None x = kept_after e x
kept_told e Ran (Some end) x = x
kept_told e (Rolled word holder) end x = given_up x
kept_told e (Waited word holder) end x = x
kept_told e (BlockWait holder) end x = x
kept_told e (JoinWait id) end x = x
kept_told e (Undone word) end x = x
kept_told e (Released word) end x = x
kept_told e Idle end x = x

abbrev pub items_told : ℕ → ℕ → Event → TurnKind → Option End → Kept → List Item
items_told t started e Ran None x = gained t started e x
items_told t started e Ran (Some end) x = cond (x.atomic_blocks == 0) [] (block_so_far t x)
items_told t started e (Rolled word holder) end x = []
items_told t started e (Waited word holder) end x = []
items_told t started e (BlockWait holder) end x = []
items_told t started e (JoinWait id) end x = []
items_told t started e (Undone word) end x = []
items_told t started e (Released word) end x = []
items_told t started e Idle end x = []

abbrev pub started_told : Event → TurnKind → Option End → ℕ → ℕ
started_told e Ran None n = started_after e n
started_told e Ran (Some end) n = n
started_told e (Rolled word holder) end n = n
started_told e (Waited word holder) end n = n
started_told e (BlockWait holder) end n = n
started_told e (JoinWait id) end n = n
started_told e (Undone word) end n = n
started_told e (Released word) end n = n
started_told e Idle end n = n

-- a turn of this thread comes, which has this next event, if it was started
abbrev pub shown : Keeping → ℕ → Option Event → Keeping
shown k t e = record k { thread = t; event = e }

-- a turn of the thread k.thread, which had this next event, was of this kind
abbrev pub told_of : Keeping → Event → TurnKind → Option End → Keeping
told_of k e kind end = record {
  items = k.items ++ items_told k.thread k.started e kind end (k.threads k.thread);
  threads = update k.threads k.thread (kept_told e kind end (k.threads k.thread));
  started = started_told e kind end k.started;
  thread = k.thread;
  event = k.event;
}

abbrev pub told_at : Keeping → Option Event → TurnKind → Option End → Keeping
told_at k None kind end = k
told_at k (Some e) kind end = told_of k e kind end

abbrev pub told : Keeping → TurnKind → Option End → Keeping
told k kind end = told_at k k.event kind end

-- These turns, one after another.

abbrev pub keep_turn : {S : Type 0} → Thread S → MemoryLayout → Slot → Machine S → Keeping → Keeping
keep_turn a p q m k =
    let done = turn a p q.answer q.thread m in
    told (shown k q.thread (option_map a.next (state_in (m.threads q.thread)))) done.kind done.machine.end

abbrev pub keep : {S : Type 0} → Thread S → MemoryLayout → List Slot → Machine S → Keeping → Keeping
keep a p [] m k = k
keep a p (q ∷ qs) m k = keep a p qs (turn a p q.answer q.thread m).machine (keep_turn a p q m k)
