-- A thread that is a list of events.
use Rattle.std.specs.Prelude.{ℕ, zero, suc, ◌≡◌, ◌+◌, Bool, true, cond, nat_lt, ◌&&◌, List, [], ◌∷◌, drop, length}
use Rattle.tx_events.specs.declared.Event.{Event}
use Rattle.tx_events.specs.declared.Event.TheVariants.{Silent, Load, Store, Out, Inp, Spawn, Join, BeginAtomic, EndAtomic, Raise, BeginSync, EndSync, Done}
use Rattle.tx_events.specs.declared.Event.TheVariants.{Stop}
use Rattle.tx_events.specs.Thread.{Thread, Open, blocks_after, may_come, is_empty}

-- the events of all functions, one function after another, and the index of the next one; a function's number is the index of its first event
pub record Cursor : Type 0 where
  pub events : List Event
  pub at : ℕ

abbrev pub first : List Event → Event
first [] = Silent
first (e ∷ es) = e

-- past the list every event is Silent
abbrev pub event_at : List Event → ℕ → Event
event_at events n = first (drop n events)

-- the open blocks at that index
abbrev pub open_at : List Event → ℕ → List Open → List Open
open_at events zero bs = bs
open_at [] (suc n) bs = bs
open_at (e ∷ es) (suc n) bs = open_at es n (blocks_after e bs)

-- the events may come in this order
abbrev pub keeps : List Event → List Open → Bool
keeps [] bs = true
keeps (e ∷ es) bs = may_come e bs && keeps es (blocks_after e bs)

-- a thread starts where no block is open
abbrev pub starts_free : List Event → Event → Bool
starts_free events (Spawn func arg) = is_empty (open_at events func [])
starts_free events Silent = true
starts_free events (Load addr size volatile) = true
starts_free events (Store addr size value volatile) = true
starts_free events (Out byte) = true
starts_free events Inp = true
starts_free events (Join id) = true
starts_free events (BeginAtomic kind) = true
starts_free events EndAtomic = true
starts_free events (Raise kind cancels) = true
starts_free events BeginSync = true
starts_free events EndSync = true
starts_free events Done = true
starts_free events (Stop end) = true

abbrev pub all_start_free : List Event → List Event → Bool
all_start_free events [] = true
all_start_free events (e ∷ es) = starts_free events e && all_start_free events es

-- the events keep the laws of threads
abbrev pub is_lawful : List Event → Bool
is_lawful events = keeps events [] && all_start_free events events

abbrev pub next_at : List Event → ℕ → ℕ
next_at events n = cond (nat_lt n (length events)) (n + 1) n

-- it takes no notice of replies
abbrev pub script : Thread Cursor
script = record {
  next = λ s. event_at s.events s.at;
  after = λ s reply. record s { at = next_at s.events s.at };
  child = λ s number func arg. record s { at = func };
  blocks = λ s. open_at s.events s.at [];
}

abbrev pub IsLawful : Cursor → Type 0
IsLawful s = is_lawful s.events ≡ true
