-- A run: turns one after another, what the picker sees before each, and what the whole comes to.
use Rattle.std.specs.Prelude.{ℕ, ◌≡◌, ◌+◌, ◌≤◌, min, Bool, true, false, ◌&&◌, length, List, [], ◌∷◌, Option, Some, None}
use Rattle.choosers.specs.declared.Clash.{Clash}
use Rattle.choosers.specs.declared.Choice.{Choice}
use Rattle.choosers.specs.declared.Seen.{Seen}
use Rattle.choosers.specs.Picks.{PickerName}
use Rattle.choosers.specs.Picks.PickerName.{Round, Clashing, Listed}
use Rattle.tx_events.specs.declared.End.{End}
use Rattle.tx_events.specs.declared.End.TheVariants.{Exit, Abort, Terminate, Trapped, StepsOut}
use Rattle.tx_events.specs.declared.Event.{Event}
use Rattle.tx_events.specs.declared.Event.TheVariants.{
  Silent,
  Load,
  Store,
  Out,
  Inp,
  Spawn,
  Join,
  BeginAtomic,
  EndAtomic,
  Raise,
  BeginSync,
  EndSync,
  Done,
  Stop,
}
use Rattle.tx_events.specs.declared.TurnKind.{TurnKind}
use Rattle.tx_events.specs.declared.TurnKind.TheVariants.{Ran, Waited, BlockWait, JoinWait, Rolled, Undone, Released, Idle}
use Rattle.tx_events.specs.Thread.{Thread}
use Rattle.tx_events.specs.Memory.{MemoryLayout}
use Rattle.tx_serial.specs.Machine.{Machine, Local, Tx, NoTx, OpenTx, GivingUp, Closing}
use Rattle.tx_serial.specs.Turn.{Slot, turn}
use Rattle.tx_serial.specs.Kinds.{Asked, is_ran}

-- How many turns were of which kind: `ran` counts Ran, Undone and Released; `waited` counts Waited and BlockWait;
-- `rolled` counts Rolled; `idle` counts Idle and JoinWait.
pub record Counts : Type 0 where
  pub ran : ℕ
  pub waited : ℕ
  pub rolled : ℕ
  pub idle : ℕ

abbrev pub no_counts : Counts
no_counts = record { ran = 0; waited = 0; rolled = 0; idle = 0 }

abbrev pub count_in : TurnKind → Counts → Counts
count_in Ran c = record c { ran = c.ran + 1 }
count_in (Undone x) c = record c { ran = c.ran + 1 }
count_in (Released x) c = record c { ran = c.ran + 1 }
count_in (Waited x u) c = record c { waited = c.waited + 1 }
count_in (BlockWait u) c = record c { waited = c.waited + 1 }
count_in (Rolled x u) c = record c { rolled = c.rolled + 1 }
count_in Idle c = record c { idle = c.idle + 1 }
count_in (JoinWait n) c = record c { idle = c.idle + 1 }

abbrev pub sum_of : Counts → ℕ
sum_of c = c.ran + c.waited + c.rolled + c.idle

-- an access

abbrev pub is_access : Event → Bool
is_access (Load addr size vol) = true
is_access (Store addr size value vol) = true
is_access Silent = false
is_access (Out byte) = false
is_access Inp = false
is_access (Spawn f x) = false
is_access (Join id) = false
is_access (BeginAtomic kind) = false
is_access EndAtomic = false
is_access (Raise kind cancels) = false
is_access BeginSync = false
is_access EndSync = false
is_access Done = false
is_access (Stop end) = false

abbrev pub is_open : {S : Type 0} → Tx S → Bool
is_open NoTx = false
is_open (OpenTx b k ss) = true
is_open (GivingUp b k ss) = false
is_open (Closing b) = false

abbrev pub accesses_in : {S : Type 0} → Thread S → Option (Local S) → Bool
accesses_in a None = false
accesses_in a (Some l) = is_open l.tx && is_access (a.next l.state)

-- The turn that thread t took, of this kind, was a Ran turn of a Load or Store in a transaction; m is the machine before it.
abbrev pub inside : {S : Type 0} → Thread S → ℕ → Machine S → TurnKind → Bool
inside a t m kind = is_ran kind && accesses_in a (m.threads t)

abbrev pub state_in : {S : Type 0} → Option (Local S) → Option S
state_in None = None
state_in (Some l) = Some l.state

-- A run so far: the machine, how many turns were taken, and of the last one its thread, the state of that thread before
-- it, its kind, and whether it was an access inside a transaction.
pub record Progress (S : Type 0) : Type 0 where
  pub machine : Machine S
  pub turn : ℕ
  pub before : Option ℕ
  pub place : Option S
  pub last : Option TurnKind
  pub inside : Bool
  pub counts : Counts

abbrev pub not_begun : {S : Type 0} → Machine S → Progress S
not_begun m = record { machine = m; turn = 0; before = None; place = None; last = None; inside = false; counts = no_counts }

abbrev pub advance : {S : Type 0} → Thread S → MemoryLayout → Slot → Progress S → Progress S
advance a p q r =
    let done = turn a p q.answer q.thread r.machine in
    record {
      machine = done.machine;
      turn = r.turn + 1;
      before = Some q.thread;
      place = state_in (r.machine.threads q.thread);
      last = Some done.kind;
      inside = inside a q.thread r.machine done.kind;
      counts = count_in done.kind r.counts;
    }

abbrev pub advances : {S : Type 0} → Thread S → MemoryLayout → List Slot → Progress S → Progress S
advances a p [] r = r
advances a p (q ∷ qs) r = advances a p qs (advance a p q r)

-- the threads of these turns
abbrev pub picks : List Slot → List ℕ
picks [] = []
picks (q ∷ qs) = q.thread ∷ picks qs

-- turns of these threads under one policy, whose answer is a function of the clash
abbrev pub slots_of : (Clash → Choice) → List ℕ → List Slot
slots_of answer [] = []
slots_of answer (t ∷ ts) = record { thread = t; answer = answer } ∷ slots_of answer ts

-- what the picker is shown before the next turn
abbrev pub seen : {S : Type 0} → Progress S → Seen
seen r = record { turn = r.turn; started = r.machine.started; last = r.last; inside = r.inside }

-- A picker as a function of what it is shown and of the last turn's thread. Each turn is of the thread that it picks.
abbrev pub PickedBy : {S : Type 0} → (Seen → Option ℕ → Option ℕ) → Thread S → MemoryLayout → List Slot → Progress S → Type 0
PickedBy pick a p [] r = Unit {0}
PickedBy pick a p (q ∷ qs) r = (pick (seen r) r.before ≡ Some q.thread) × PickedBy pick a p qs (advance a p q r)

-- A picker with a state that changes: `step old seen t new` says that it may pick t and go from old to new. Each turn is
-- of the thread that it picks, asked once a turn, and the last turn leaves it in the state `end`.
abbrev pub PicksTo : {S G : Type 0} → (G → Seen → ℕ → G → Type 0) → Thread S → MemoryLayout → List Slot → Progress S → G → G → Type 0
PicksTo step a p [] r old end = end ≡ old
PicksTo {S} {G} step a p (q ∷ qs) r old end = (new : G) × step old (seen r) q.thread new × PicksTo step a p qs (advance a p q r) new end

-- how many turns a named picker has within the bound: a schedule has as many as it has entries
abbrev pub turns_within : ℕ → PickerName → ℕ
turns_within bound (Round slot) = bound
turns_within bound Clashing = bound
turns_within bound (Listed schedule) = min bound (length schedule)

-- A policy, as the relation of clashes and the choices that it may make. In each turn in which it is asked it makes such a
-- choice.
abbrev pub AnsweredBy : {S : Type 0} → (Clash → Choice → Type 0) → Thread S → MemoryLayout → List Slot → Progress S → Type 0
AnsweredBy policy a p [] r = Unit {0}
AnsweredBy policy a p (q ∷ qs) r = ((c : Clash) → Asked a p q.thread r.machine c → policy c (q.answer c)) × AnsweredBy policy a p qs (advance a p q r)

-- a policy whose answer is a function of the clash
abbrev pub is_answer : (Clash → Choice) → Clash → Choice → Type 0
is_answer answer c choice = choice ≡ answer c

-- no end has come before any of the turns
abbrev pub NoEndBefore : {S : Type 0} → Thread S → MemoryLayout → List Slot → Progress S → Type 0
NoEndBefore a p [] r = Unit {0}
NoEndBefore a p (q ∷ qs) r = (r.machine.end ≡ None) × NoEndBefore a p qs (advance a p q r)

-- The run's end is the program's, or StepsOut where the bound's number of turns was taken and no end came.
abbrev pub Stops : ℕ → ℕ → Option End → End → Type 0
Stops bound taken (Some end) e = e ≡ end
Stops bound taken None e = (taken ≡ bound) × (e ≡ StepsOut)

-- where the program trapped, this is the place of the trap
abbrev pub trap_place : {S : Type 0} → End → Option S → Option S
trap_place (Trapped trap) place = place
trap_place (Exit code) place = None
trap_place Abort place = None
trap_place Terminate place = None
trap_place StepsOut place = None

-- What a run comes to: output, input left, end, order, the thread of each turn, the counts of its turns, and where it
-- trapped: the state of the last turn's thread before that turn.
pub record Outcome (S : Type 0) : Type 0 where
  pub out : List ℕ
  pub input : List ℕ
  pub end : End
  pub order : List ℕ
  pub picked : List ℕ
  pub counts : Counts
  pub place : Option S

-- A run of at most `bound` turns, from the machine `first`: these are its turns, and this is what it comes to.
pub record RunOf {S : Type 0} (a : Thread S) (p : MemoryLayout) (bound : ℕ) (first : Machine S) (slots : List Slot) (result : Outcome S) : Type 0 where
  pub within : length slots ≤ bound
  pub going : NoEndBefore a p slots (not_begun first)
  pub stops : Stops bound (length slots) (advances a p slots (not_begun first)).machine.end result.end
  pub out : result.out ≡ (advances a p slots (not_begun first)).machine.out
  pub input : result.input ≡ (advances a p slots (not_begun first)).machine.input
  pub order : result.order ≡ (advances a p slots (not_begun first)).machine.order
  pub picked : result.picked ≡ picks slots
  pub counts : result.counts ≡ (advances a p slots (not_begun first)).counts
  pub place : result.place ≡ trap_place result.end (advances a p slots (not_begun first)).place

abbrev pub is_trapped : End → Bool
is_trapped (Trapped trap) = true
is_trapped (Exit code) = false
is_trapped Abort = false
is_trapped Terminate = false
is_trapped StepsOut = false

-- this holds of each turn and of the run before it
abbrev pub EachTurn : {S : Type 0} → (Slot → Progress S → Type 0) → Thread S → MemoryLayout → List Slot → Progress S → Type 0
EachTurn P a p [] r = Unit {0}
EachTurn P a p (q ∷ qs) r = P q r × EachTurn P a p qs (advance a p q r)

-- where both lists have an entry, it is the same
abbrev pub Together : List ℕ → List ℕ → Type 0
Together [] us = Unit {0}
Together (t ∷ ts) [] = Unit {0}
Together (t ∷ ts) (u ∷ us) = (u ≡ t) × Together ts us
