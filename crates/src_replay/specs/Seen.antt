-- What a step of a thread did, and which events were written down of it.
use Rattle.std.specs.Prelude.{◌≡◌, ◌+◌, ℕ, Bool, false, true, List, ◌∷◌, ◌++◌}
use Rattle.tx_events.specs.declared.Event.{Event}
use Rattle.tx_events.specs.declared.Event.TheVariants.{Silent, Load, Store, Out, Inp, Spawn, Join, BeginAtomic, EndAtomic, Raise, BeginSync, EndSync, Done}
use Rattle.tx_events.specs.declared.Event.TheVariants.{Stop}
use Rattle.tx_events.specs.Alone.{inner_by}
use Rattle.tx_events.specs.Memory.{MemoryLayout}
use Rattle.tx_events.specs.World.{World as Worlds}
use Rattle.src_mean.specs.Cost.{inside_cost}
use Rattle.src_mean.specs.Frames.{State}
use Rattle.src_mean.specs.Linked.{Program}
use Rattle.src_mean.specs.Source.{source}
use Rattle.src_replay.specs.declared.nested.Nested.{Nested}
use Rattle.src_replay.specs.declared.world.Entry.{Entry}
use Rattle.src_replay.specs.declared.world.Entry.TheVariants.{Taken, Refused, Spent}
use Rattle.src_replay.specs.declared.world.World.{World}
use Rattle.src_replay.specs.Entries.{comes, Unfinished}
use Rattle.src_replay.specs.Entries as entries
use Rattle.src_replay.specs.LoneRuns.{inside_events, event_events, moment_events, refused_events, refused_units}
use Rattle.src_replay.specs.Shown.{Does, Inmost, ActTaken, BlockRun}

-- the event begins an atomic block
abbrev pub is_begin : Event → Bool
is_begin (BeginAtomic kind) = true
is_begin Silent = false
is_begin (Load addr size volatile) = false
is_begin (Store addr size value volatile) = false
is_begin (Out byte) = false
is_begin Inp = false
is_begin (Spawn func arg) = false
is_begin (Join id) = false
is_begin EndAtomic = false
is_begin (Raise kind cancels) = false
is_begin BeginSync = false
is_begin EndSync = false
is_begin Done = false
is_begin (Stop end) = false

-- the steps so far in the block that begins with this event in the state s, and what was written down of them
pub record SeenBlock (program : Program) (p : MemoryLayout) (t : ℕ) (w : Worlds State) (s : State) (event : Event) (left : ℕ) (now : World) (nested : Nested)
    (before after : List Event) : Type 0 where
  pub block : BlockRun program p t w s left now nested
  pub seen : after ≡ before ++ event ∷ inside_events (source program) p block.run

-- what an event did, or a whole block, with all that came
pub record SeenDoes (program : Program) (p : MemoryLayout) (t : ℕ) (w : Worlds State) (s : State) (event : Event) (world : Worlds State) (left now : ℕ)
    (came : List Event) : Type 0 where
  pub done : Does program p t w s event world left now
  pub all : came ≡ event_events (source program) p t w s event world done.does

pub record SeenTaken (program : Program) (p : MemoryLayout) (t : ℕ) (w : Worlds State) (s : State) (left : ℕ) (new : World)
    (before after : List Event) : Type 0 where
  pub taken : ActTaken program p t w s left new
  pub seen : after ≡ before ++ event_events (source program) p t w s s.event taken.world taken.done.does

-- the block does not come to its end
pub record SeenRefused (program : Program) (p : MemoryLayout) (t : ℕ) (w : Worlds State) (s : State) (left : ℕ) (new : World)
    (before after : List Event) : Type 0 where
  pub at : Inmost program p t w s
  pub cost : inside_cost at.run + new.left ≡ left
  pub never : comes (inner_by (source program) p at.last at.last.state.event) ≡ false
  pub out : new.out.items ≡ w.out
  pub seen : after ≡ before ++ BeginAtomic at.kind ∷ inside_events (source program) p at.run

pub record SeenSpent (program : Program) (p : MemoryLayout) (t : ℕ) (w : Worlds State) (s : State) (left : ℕ) (new : World)
    (before after : List Event) : Type 0 where
  pub at : Inmost program p t w s
  pub cost : inside_cost at.run ≡ left
  pub further : comes (inner_by (source program) p at.last at.last.state.event) ≡ true
  pub none_left : new.left ≡ 0
  pub out : new.out.items ≡ w.out
  pub seen : after ≡ before ++ BeginAtomic at.kind ∷ inside_events (source program) p at.run

abbrev pub SeenAct : Program → MemoryLayout → ℕ → Worlds State → State → ℕ → World → List Event → List Event → Entry → Type 0
SeenAct program p t w s left new before after Taken = SeenTaken program p t w s left new before after
SeenAct program p t w s left new before after Refused = SeenRefused program p t w s left new before after
SeenAct program p t w s left new before after Spent = SeenSpent program p t w s left new before after

-- an entry that is not over
pub record EntryRefused (program : Program) (p : MemoryLayout) (t : ℕ) (w : Worlds State) (left : ℕ) (new : World) (before after : List Event) : Type 0 where
  pub refused : entries.Refused (source program) p t w left
  pub cost : refused_units (source program) p t w left refused + new.left ≡ left
  pub out : new.out.items ≡ w.out
  pub seen : after ≡ before ++ refused_events (source program) p t w left refused

pub record EntrySpent (program : Program) (p : MemoryLayout) (t : ℕ) (w : Worlds State) (left : ℕ) (new : World) (before after : List Event) : Type 0 where
  pub unfinished : Unfinished (source program) p t w left
  pub none_left : new.left ≡ 0
  pub out : new.out.items ≡ w.out
  pub seen : after ≡ before ++ moment_events (source program) p t w unfinished.moment
