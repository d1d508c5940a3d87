-- What the code knows where threads take turns: it takes the silent steps of a thread's next entry already where it looks whether that can come.
use Rattle.std.specs.Prelude.{◌≡◌, ◌≤◌, ◌<◌, ◌+◌, ◌%◌, ◌++◌, ℕ, true, false, List, [], Option, Some, None}
use Rattle.std.proofs.Common.{get_or}
use Rattle.tx_events.specs.declared.Event.{Event}
use Rattle.tx_events.specs.Memory.{MemoryLayout}
use Rattle.tx_events.specs.Thread.{Thread, is_silent}
use Rattle.tx_events.specs.World.{World as Worlds, Alive as Started, alive, SilentSteps, Step, Replays}
use Rattle.tx_memory.specs.View.{layout_of}
use Rattle.src_bind.specs.Tables.{Given}
use Rattle.src_mean.specs.Cost.{silent_cost, step_cost, cost}
use Rattle.src_mean.specs.Frames.{State}
use Rattle.src_mean.specs.Linked.{Program}
use Rattle.src_mean.specs.Source.{source}
use Rattle.src_replay.specs.declared.turns.Ahead.{Ahead}
use Rattle.src_replay.specs.declared.turns.Choice.{Choice}
use Rattle.src_replay.specs.declared.turns.Choice.TheVariants.{Nobody, Ready as ReadyThread, Spent as SpentThread}
use Rattle.src_replay.specs.declared.turns.Look.{Look}
use Rattle.src_replay.specs.declared.turns.Look.TheVariants.{Ready, Waits, Spent}
use Rattle.src_replay.specs.declared.world.Entry.{Entry}
use Rattle.src_replay.specs.declared.world.Entry.TheVariants.{Taken, Refused as Stays, Spent as CutOff}
use Rattle.src_replay.specs.declared.world.World.{World}
use Rattle.src_replay.specs.Entries.{Refused, is_enabled}
use Rattle.src_replay.specs.LoneRuns.{step_events, events, TakesTurns}
use Rattle.src_replay.specs.Orders.{program_in, layout_in, first_in}
use Rattle.src_replay.specs.Seen.{EntryRefused, EntrySpent}
use Rattle.src_replay.specs.Shown.{world_of, threads_of, Stands}

-- how many silent steps each thread has taken already, by its number
abbrev pub steps_of : Ahead → ℕ → ℕ
steps_of a k = get_or a.steps k 0

-- a thread that has come further by so many silent steps
pub record IsFurther {S : Type 0} (a : Thread S) (x y : Started S) (n : ℕ) : Type 0 where
  pub steps : SilentSteps a x.state y.state
  pub cost : silent_cost steps ≡ n
  pub ended : x.ended ≡ y.ended

abbrev pub AheadAt : {S : Type 0} → Thread S → Option (Started S) → Option (Started S) → ℕ → Type 0
AheadAt a None None n = n ≡ 0
AheadAt a (Some x) (Some y) n = IsFurther a x y n
AheadAt a o q n = ⊥

-- each thread has, by its number
abbrev pub AllAhead : {S : Type 0} → Thread S → (ℕ → Option (Started S)) → (ℕ → Option (Started S)) → (ℕ → ℕ) → Type 0
AllAhead a f g ns = (k : ℕ) → AheadAt a (f k) (g k) (ns k)

-- the code's world is this one, but that threads have come further
pub record IsAhead (program : Program) (ns : ℕ → ℕ) (w : Worlds State) (now : World) : Type 0 where
  pub world : world_of now ≡ record w { threads = threads_of now.threads.alive.items }
  pub each : AllAhead (source program) w.threads (threads_of now.threads.alive.items) ns

-- the same; where the program has ended, its output and its end alone
pub record ShowsAhead (program : Program) (ns : ℕ → ℕ) (v : Worlds State) (now : World) : Type 0 where
  pub end_is : now.end ≡ v.end
  pub out_is : now.out.items ≡ v.out
  pub all : now.end ≡ None → IsAhead program ns v now

-- what stays where threads are looked at
pub record IsLooked (program : Program) (p : MemoryLayout) (ns : ℕ → ℕ) (w : Worlds State) (new : World) : Type 0 where
  pub ahead : IsAhead program ns w new
  pub stands : Stands program new
  pub layout : layout_of new.memory ≡ p

-- the thread waits
pub record IsWaiting (program : Program) (p : MemoryLayout) (t : ℕ) (w : Worlds State) (left : ℕ) (new : World) (ns : ℕ → ℕ) : Type 0 where
  pub looked : IsLooked program p ns w new
  pub left_is : new.left ≡ left
  pub refused : Refused (source program) p t w left

-- its event is enabled, and its silent steps are paid
pub record IsReady (program : Program) (p : MemoryLayout) (t : ℕ) (w : Worlds State) (left : ℕ) (new : World) (ns : ℕ → ℕ) : Type 0 where
  pub looked : IsLooked program p ns w new
  pub paid : ns t + new.left ≡ left
  pub here : State
  pub stands_there : threads_of new.threads.alive.items t ≡ alive here
  pub loud : is_silent here.event ≡ false
  pub enabled : is_enabled t w here.event ≡ true

abbrev pub Looked : Program → MemoryLayout → ℕ → Worlds State → ℕ → World → (ℕ → ℕ) → Look → Type 0
Looked program p t w left new ns Waits = IsWaiting program p t w left new ns
Looked program p t w left new ns Ready = IsReady program p t w left new ns
Looked program p t w left new ns Spent = EntrySpent program p t w left new [] []

-- the turns from one to another pass
pub record AllWait (program : Program) (p : MemoryLayout) (from to : ℕ) (w : Worlds State) (left : ℕ) (new : World) (ns : ℕ → ℕ) : Type 0 where
  pub looked : IsLooked program p ns w new
  pub left_is : new.left ≡ left
  pub refused : (i : ℕ) → from ≤ i → i < to → Refused (source program) p (i % w.started) w left

-- the turns from one on pass up to this one, which is of thread t
pub record IsFirst (program : Program) (p : MemoryLayout) (from turn t : ℕ) (w : Worlds State) (left : ℕ) : Type 0 where
  pub behind : from ≤ turn
  pub near : turn < from + w.started
  pub refused : (i : ℕ) → from ≤ i → i < turn → Refused (source program) p (i % w.started) w left
  pub is : t ≡ turn % w.started

pub record NobodyGoes (program : Program) (p : MemoryLayout) (w : Worlds State) (left : ℕ) (new : World) : Type 0 where
  pub left_is : new.left ≡ left
  pub out : new.out.items ≡ w.out
  pub refused : (u : ℕ) → Refused (source program) p u w left

-- whose entry is next, from this turn on
abbrev pub Chosen : Program → MemoryLayout → ℕ → Worlds State → ℕ → World → (ℕ → ℕ) → Choice → Type 0
Chosen program p from w left new ns Nobody = NobodyGoes program p w left new
Chosen program p from w left new ns (ReadyThread turn t) = IsFirst program p from turn t w left × IsReady program p t w left new ns
Chosen program p from w left new ns (SpentThread turn t) = IsFirst program p from turn t w left × EntrySpent program p t w left new [] []

-- a whole entry
pub record IsTaken (program : Program) (p : MemoryLayout) (t : ℕ) (w : Worlds State) (left : ℕ) (new : World) (ns : ℕ → ℕ)
    (before after : List Event) : Type 0 where
  pub world : Worlds State
  pub step : Step (source program) p t w world
  pub cost : step_cost (source program) p t w world step + new.left ≡ left
  pub seen : after ≡ before ++ step_events (source program) p t w world step
  pub shows : ShowsAhead program ns world new
  pub stands : Stands program new
  pub layout : layout_of new.memory ≡ p

abbrev pub Entered : Program → MemoryLayout → ℕ → Worlds State → ℕ → World → (ℕ → ℕ) → List Event → List Event → Entry → Type 0
Entered program p t w left new ns before after Taken = IsTaken program p t w left new ns before after
Entered program p t w left new ns before after Stays = EntryRefused program p t w left new before after
Entered program p t w left new ns before after CutOff = EntrySpent program p t w left new before after

-- the entries so far
pub record RanAlone (b : Given) (input order : List ℕ) (most turn : ℕ) (now : World) (ns : ℕ → ℕ) (told : List Event) : Type 0 where
  pub world : Worlds State
  pub replays : Replays (source (program_in b)) (layout_in b) (first_in b input) order world
  pub turns : TakesTurns (source (program_in b)) (layout_in b) 0 turn (first_in b input) order world replays
  pub cost_is : cost (source (program_in b)) (layout_in b) (first_in b input) order world replays + now.left ≡ most
  pub told_is : told ≡ events (source (program_in b)) (layout_in b) (first_in b input) order world replays
  pub shows : ShowsAhead (program_in b) ns world now
  pub stands : Stands (program_in b) now
  pub layout : layout_of now.memory ≡ layout_in b
