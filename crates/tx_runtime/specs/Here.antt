-- Where a thread stands that takes a turn.
use Rattle.std.specs.Prelude.{ℕ, ℤ, pos, ◌≡◌, ◌<◌, Bool, true, false, List, Some, None, slice_get}
use Rattle.choosers.specs.declared.Clash.{Clash}
use Rattle.choosers.specs.declared.Choice.{Choice}
use Rattle.tx_events.specs.declared.Event.{Event}
use Rattle.tx_events.specs.declared.TurnKind.{TurnKind}
use Rattle.tx_events.specs.Memory.{MemoryLayout}
use Rattle.tx_events.specs.Thread.{Thread}
use Rattle.tx_serial.specs.Machine.{Machine, Local, Save, NoTx, OpenTx, GivingUp, Closing}
use Rattle.tx_serial.specs.Kinds.{Asked}
use Rattle.tx_events.specs.declared.Event.TheVariants.{Silent, Load, Store, Out, Inp, Spawn, Join, BeginAtomic, EndAtomic, Raise, BeginSync, EndSync, Done}
use Rattle.tx_events.specs.declared.Event.TheVariants.{Stop}
use Rattle.tx_events.specs.declared.Reply.TheVariants.{Nothing}
use Rattle.tx_events.specs.World.{target}
use Rattle.tx_serial.specs.Turn.{turn, commits}
use Rattle.undo_log.specs.View.{HasCapacity}
use Rattle.tx_runtime.specs.declared.engine.Engine.{Engine}
use Rattle.tx_runtime.specs.declared.thread.ThreadSlot.{ThreadSlot}
use Rattle.tx_runtime.specs.View.{machine_in, layout_in}

-- it goes on without a transaction, and this is its next event
pub record IsOutside {S : Type 0} (R : S → Type 0) (a : Thread S) (l : Local S) (e : Event) : Type 0 where
  pub reached : R l.state
  pub up : l.ended ≡ false
  pub tx : l.tx ≡ NoTx
  pub next : a.next l.state ≡ e

pub record GoesOutside {S : Type 0} (R : S → Type 0) (a : Thread S) (t : ℕ) (m : Machine S) (e : Event) : Type 0 where
  pub going : m.end ≡ None
  pub started : t < m.started
  pub at : (l : Local S) → m.threads t ≡ Some l → IsOutside R a l e

-- it goes on in an open transaction, and this is its next event
pub record IsInside {S : Type 0} (R : S → Type 0) (a : Thread S) (l : Local S) (e : Event) : Type 0 where
  pub reached : R l.state
  pub up : l.ended ≡ false
  pub birth : ℕ
  pub kept : S
  pub saves : List Save
  pub tx : l.tx ≡ OpenTx birth kept saves
  pub next : a.next l.state ≡ e

pub record GoesInside {S : Type 0} (R : S → Type 0) (a : Thread S) (t : ℕ) (m : Machine S) (e : Event) : Type 0 where
  pub going : m.end ≡ None
  pub started : t < m.started
  pub at : (l : Local S) → m.threads t ≡ Some l → IsInside R a l e

-- there is room for a step of thread t
abbrev pub IsReady : {A K : Type 0} → (A → Type 0) → ℕ → List (ThreadSlot A K) → Type 0
IsReady {A} {K} capacity t threads = (s : ThreadSlot A K) → slice_get threads t ≡ Some s → capacity s.actor

-- and for one note or one savepoint more
abbrev pub IsReadyToNote : {A K : Type 0} → (A → Type 0) → ℕ → List (ThreadSlot A K) → Type 0
IsReadyToNote {A} {K} capacity t threads = (s : ThreadSlot A K) → slice_get threads t ≡ Some s → capacity s.actor × HasCapacity s.log

-- The turn of thread t led from old to new and was of this kind, whatever the policy would have answered.
abbrev pub Turns : {A K S : Type 0} → (A → S) → (K → S) → Thread S → ℕ → Engine A K → TurnKind → Engine A K → Type 0
Turns state saved a t old kind new = (answer : Clash → Choice)
    → record { machine = machine_in state saved new; kind = kind } ≡ turn a (layout_in old) answer t (machine_in state saved old)

-- the thread of that number may be joined by thread t, and was started
pub record IsJoined {S : Type 0} (t : ℕ) (id : ℤ) (m : Machine S) (n : ℕ) : Type 0 where
  pub number : id ≡ pos n
  pub started : n < m.started
  pub target : target t id m.threads ≡ m.threads n

-- it goes on in an open transaction, with an event that changes nothing but the thread
abbrev pub is_passing : Event → Bool
is_passing Silent = true
is_passing BeginSync = true
is_passing EndSync = true
is_passing (Load addr size vol) = false
is_passing (Store addr size value vol) = false
is_passing (Out byte) = false
is_passing Inp = false
is_passing (Spawn func arg) = false
is_passing (Join id) = false
is_passing (BeginAtomic kind) = false
is_passing EndAtomic = false
is_passing (Raise kind cancels) = false
is_passing Done = false
is_passing (Stop end) = false

-- it leaves its innermost block
abbrev pub is_leaving : Event → Bool
is_leaving EndAtomic = true
is_leaving (Raise kind cancels) = true
is_leaving Silent = false
is_leaving BeginSync = false
is_leaving EndSync = false
is_leaving (Load addr size vol) = false
is_leaving (Store addr size value vol) = false
is_leaving (Out byte) = false
is_leaving Inp = false
is_leaving (Spawn func arg) = false
is_leaving (Join id) = false
is_leaving (BeginAtomic kind) = false
is_leaving Done = false
is_leaving (Stop end) = false

pub record PassesInside {S : Type 0} (R : S → Type 0) (a : Thread S) (t : ℕ) (m : Machine S) : Type 0 where
  pub event : Event
  pub passes : is_passing event ≡ true
  pub here : GoesInside R a t m event

pub record LeavesBlock {S : Type 0} (R : S → Type 0) (a : Thread S) (t : ℕ) (m : Machine S) : Type 0 where
  pub event : Event
  pub leaves : is_leaving event ≡ true
  pub here : GoesInside R a t m event

-- its transaction gives up, or is closing
pub record GivesUp {S : Type 0} (t : ℕ) (m : Machine S) : Type 0 where
  pub going : m.end ≡ None
  pub started : t < m.started
  pub at : (l : Local S) → m.threads t ≡ Some l → (l.ended ≡ false) × ((b : ℕ) × (k : S) × (ss : List Save) × (l.tx ≡ GivingUp b k ss))

pub record Closes {S : Type 0} (t : ℕ) (m : Machine S) : Type 0 where
  pub going : m.end ≡ None
  pub started : t < m.started
  pub at : (l : Local S) → m.threads t ≡ Some l → (l.ended ≡ false) × ((b : ℕ) × (l.tx ≡ Closing b))

-- it has ended, or was not started
abbrev pub IsStill : {S : Type 0} → ℕ → Machine S → Type 0
IsStill {S} t m = (l : Local S) → m.threads t ≡ Some l → l.ended ≡ true

-- The innermost block of thread t was left, and what it did stays.
abbrev pub Commits : {A K S : Type 0} → (A → S) → (K → S) → Thread S → ℕ → Engine A K → TurnKind → Engine A K → Type 0
Commits {A} {K} {S} state saved a t old kind new = (l : Local S) (b : ℕ) (k : S) (ss : List Save) → (machine_in state saved old).threads t ≡ Some l
    → l.tx ≡ OpenTx b k ss
    → record { machine = machine_in state saved new; kind = kind } ≡ commits (layout_in old) t (machine_in state saved old) l (a.after l.state Nothing) b k ss

-- The turn of thread t led from the machine old to the machine new and was of this kind; where the policy was asked, its
-- answer was this choice, which the rule allows.
pub record Chosen {S : Type 0} (a : Thread S) (p : MemoryLayout) (answers : Clash → Choice → Type 0) (allows : Clash → Choice → Bool) (t : ℕ) (old : Machine S)
    (kind : TurnKind) (new : Machine S) : Type 0 where
  pub choice : Choice
  pub asked : (c : Clash) → Asked a p t old c → answers c choice × (allows c choice ≡ true)
  pub turned : record { machine = new; kind = kind } ≡ turn a p (λ _. choice) t old

-- its transaction is open
pub record IsOpen {S : Type 0} (l : Local S) : Type 0 where
  pub birth : ℕ
  pub kept : S
  pub saves : List Save
  pub tx : l.tx ≡ OpenTx birth kept saves
