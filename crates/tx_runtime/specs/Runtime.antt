-- What a caller sees of a runtime.
use Rattle.std.specs.Prelude.{ℕ, ◌≡◌, ◌==◌, Bool, false, cond, is_some, List, [], Option, Some, None, slice_get}
use Rattle.tx_events.specs.declared.actor.Actor.{Ghosts}
use Rattle.tx_events.specs.declared.TurnKind.{TurnKind}
use Rattle.tx_events.specs.Memory.{MemoryLayout}
use Rattle.tx_events.specs.Thread.{Thread}
use Rattle.tx_events.specs.World.{first_world}
use Rattle.own_table.specs.declared.table.Holders.{Holders}
use Rattle.own_table.specs.Table.{hold_of, thread_limit}
use Rattle.tx_serial.specs.Machine.{Machine, Local, Save, held_by, wrote_by}
use Rattle.tx_serial.specs.Run.{inside}
use Rattle.tx_serial.specs.Shows.{saves_of, ShownByReplay}
use Rattle.tx_serial.specs.Turn.{Slot, turns, first_machine}
use Rattle.tx_runtime.specs.declared.runtime.Runtime.{Runtime}
use Rattle.tx_runtime.specs.Threads.{is_write}
use Rattle.tx_runtime.specs.View.{machine_in, layout_in}

-- the machine that it shows
abbrev pub machine_of : {A K : Type 0} {g : Ghosts A K} → Runtime A K g → Machine g.State
machine_of {g = g} r = machine_in g.state g.saved_state r.engine

-- what is mapped, and how many threads may be started
abbrev pub layout_at : {A K : Type 0} {g : Ghosts A K} → Runtime A K g → MemoryLayout
layout_at r = layout_in r.engine

-- thread numbers are below this
abbrev pub limit_of : {A K : Type 0} {g : Ghosts A K} → Runtime A K g → ℕ
limit_of r = r.engine.limit

abbrev pub flag_in : Option Bool → Bool
flag_in None = false
flag_in (Some b) = b

-- the last turn of thread t was a Ran Load or Store in a transaction
abbrev pub inside_of : {A K : Type 0} {g : Ghosts A K} → Runtime A K g → ℕ → Bool
inside_of r t = flag_in (slice_get r.inside.items t)

-- after a turn of thread t, of this kind, from the machine m
abbrev pub inside_after : {S : Type 0} → Thread S → ℕ → Machine S → TurnKind → (ℕ → Bool) → ℕ → Bool
inside_after a t m kind before u = cond (u == t) (inside a t m kind) (before u)

-- the savepoints of thread t, the newest first
abbrev pub saves_in : {S : Type 0} → Option (Local S) → List Save
saves_in None = []
saves_in (Some l) = saves_of l.tx

-- the thread, if it was started
abbrev pub ShowsActor : {A S : Type 0} → (A → S) → Option (Local S) → Option A → Type 0
ShowsActor state None None = Unit {0}
ShowsActor state None (Some b) = ⊥
ShowsActor state (Some l) None = ⊥
ShowsActor state (Some l) (Some b) = state b ≡ l.state

-- the table's relation is what the threads of the machine hold
pub record HoldsOf {S : Type 0} (m : Machine S) (limit : ℕ) (holders : Holders) : Type 0 where
  pub held : (t x : ℕ) → is_some (hold_of holders t x) ≡ held_by (m.threads t) x
  pub wrote : (t x : ℕ) → is_write (hold_of holders t x) ≡ wrote_by (m.threads t) x
  pub numbers : thread_limit holders ≡ limit

-- turns led from the machine `first` to this one
abbrev pub ReachedBy : {S : Type 0} → Thread S → MemoryLayout → Machine S → Machine S → Type 0
ReachedBy a p first m = (slots : List Slot) × (m ≡ turns a p slots first)

-- What held of the turns so far holds after this one: it is reached from where the old machine was, and its order replays
-- in the indivisible world.
pub record KeepsOrder {S : Type 0} (R : S → Type 0) (a : Thread S) (p : MemoryLayout) (old new : Machine S) : Type 0 where
  pub reached : (first : Machine S) → ReachedBy a p first old → ReachedBy a p first new
  pub shown : (memory : ℕ → ℕ) (input : List ℕ) (main : S) → R main → a.blocks main ≡ [] → ReachedBy a p (first_machine memory input main) old
      → ShownByReplay a p (first_world memory input main) new
