-- How many turns a thread needs that is alone: one for each instruction, and at most two more for each access, one that
-- puts a word back and one that lets it go.
use Rattle.std.specs.Prelude.{ℕ, suc, ◌≡◌, ◌==◌, ◌≤◌, ◌+◌, ◌*◌, Bool, true, false, cond, List, [], ◌∷◌}
use Rattle.tx_events.specs.declared.Event.{Event}
use Rattle.tx_events.specs.declared.Event.TheVariants.{
  Silent,
  Load,
  Store,
  Out,
  Inp,
  Spawn,
  Join,
  BeginAtomic,
  EndAtomic,
  Raise,
  BeginSync,
  EndSync,
  Done,
  Stop,
}
use Rattle.tx_events.specs.declared.Reply.{Reply}
use Rattle.tx_events.specs.declared.TurnKind.{TurnKind}
use Rattle.tx_events.specs.declared.TurnKind.TheVariants.{Ran, Waited, BlockWait, JoinWait, Rolled, Undone, Released, Idle}
use Rattle.tx_events.specs.Thread.{Thread}
use Rattle.tx_events.specs.Memory.{MemoryLayout}
use Rattle.tx_events.specs.World.{World, EventStep, Replays}
use Rattle.tx_serial.specs.Turn.{Slot}

-- The thread with a history of its own: x0 at its start, and f of it at each reply. A thread is put back together with
-- its history.
abbrev pub with_more : {S X : Type 0} → X → (X → Event → Reply → X) → Thread S → Thread (S × X)
with_more x0 f a = record {
  next = λ s. a.next s.0;
  after = λ s r. (a.after s.0 r, f s.1 (a.next s.0) r);
  child = λ s n g x. (a.child s.0 n g x, x0);
  blocks = λ s. a.blocks s.0;
}

-- how many instructions a thread has executed, and how many accesses are among them
pub record Tally : Type 0 where
  pub steps : ℕ
  pub accesses : ℕ

abbrev pub no_tally : Tally
no_tally = record { steps = 0; accesses = 0 }

-- an event that accesses memory counts one
abbrev pub accesses_of : Event → ℕ
accesses_of (Load addr size vol) = 1
accesses_of (Store addr size value vol) = 1
accesses_of Silent = 0
accesses_of (Out byte) = 0
accesses_of Inp = 0
accesses_of (Spawn f x) = 0
accesses_of (Join id) = 0
accesses_of (BeginAtomic kind) = 0
accesses_of EndAtomic = 0
accesses_of (Raise kind c) = 0
accesses_of BeginSync = 0
accesses_of EndSync = 0
accesses_of Done = 0
accesses_of (Stop e) = 0

abbrev pub tally_in : Event → Tally → Tally
tally_in e n = record { steps = n.steps + 1; accesses = n.accesses + accesses_of e }

-- the turns that it needs for that, where it is alone
abbrev pub turns_for : Tally → ℕ
turns_for n = n.steps + 2 * n.accesses

-- the thread with its tally
abbrev pub tallied : {S : Type 0} → Thread S → Thread (S × Tally)
tallied a = with_more no_tally (λ n e r. tally_in e n) a

abbrev pub is_spawn : Event → Bool
is_spawn (Spawn f x) = true
is_spawn (Load addr size vol) = false
is_spawn (Store addr size value vol) = false
is_spawn Silent = false
is_spawn (Out byte) = false
is_spawn Inp = false
is_spawn (Join id) = false
is_spawn (BeginAtomic kind) = false
is_spawn EndAtomic = false
is_spawn (Raise kind c) = false
is_spawn BeginSync = false
is_spawn EndSync = false
is_spawn Done = false
is_spawn (Stop e) = false

-- What the thread has executed once the step's event is done: of a whole block, with the event that ends it.
abbrev pub tally_at : {S : Type 0} (a : Thread S) (p : MemoryLayout) (t : ℕ) (w : World (S × Tally)) (s : S × Tally) (e : Event) (v : World (S × Tally))
    → EventStep (tallied a) p t w s e v → Tally
tally_at a p t w s (BeginAtomic kind) v d = tally_in (a.next d.1.last.state.0) d.1.last.state.1
tally_at a p t w s e v d = tally_in e s.1

-- The run executes at most so many instructions and so many accesses, and spawns nothing.
abbrev pub AtMost : {S : Type 0} (a : Thread S) (p : MemoryLayout) (steps accesses : ℕ) (w : World (S × Tally)) (order : List ℕ) (v : World (S × Tally))
    → Replays (tallied a) p w order v → Type 0
AtMost a p steps accesses w [] v h = Unit {0}
AtMost a p steps accesses w (t ∷ order) v h =
    (is_spawn (a.next h.1.before.0) ≡ false)
    × ((tally_at a p t w h.1.before (a.next h.1.before.0) h.0 h.1.does).steps ≤ steps)
    × ((tally_at a p t w h.1.before (a.next h.1.before.0) h.0 h.1.does).accesses ≤ accesses)
    × AtMost a p steps accesses h.0 order v h.2

-- how many of the turns are thread 0's
abbrev pub zeros : List Slot → ℕ
zeros [] = 0
zeros (q ∷ qs) = cond (q.thread == 0) (suc (zeros qs)) (zeros qs)

-- a turn in which a thread waits, or gives up
abbrev pub is_waiting : TurnKind → Bool
is_waiting Ran = false
is_waiting (Undone x) = false
is_waiting (Released x) = false
is_waiting Idle = false
is_waiting (Waited x u) = true
is_waiting (BlockWait u) = true
is_waiting (JoinWait u) = true
is_waiting (Rolled x u) = true
