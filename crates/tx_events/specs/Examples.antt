-- Worlds worked out by hand: what small lists of events come to.
use Rattle.std.specs.Prelude.{ℕ, pos, ◌≡◌, true, false, List, [], ◌∷◌, ◌++◌, Option, Some, None}
use Rattle.tx_events.specs.declared.BlockKind.TheVariants.{NoExcept, Commit, Cancel}
use Rattle.tx_events.specs.declared.End.{End}
use Rattle.tx_events.specs.declared.End.TheVariants.{Exit}
use Rattle.tx_events.specs.declared.Event.{Event}
use Rattle.tx_events.specs.declared.Event.TheVariants.{Silent, Load, Store, Out, Inp, Spawn, Join, BeginAtomic, EndAtomic, Raise, BeginSync, EndSync, Done}
use Rattle.tx_events.specs.declared.Event.TheVariants.{Stop}
use Rattle.tx_events.specs.declared.Reply.{Reply}
use Rattle.tx_events.specs.declared.GlobalCell.{GlobalCell}
use Rattle.tx_events.specs.Memory.{MemoryLayout, byte_at, no_bytes}
use Rattle.tx_events.specs.World.{Alive, World, Step, Replays, first_world}
use Rattle.tx_events.specs.Thread.{Thread}
use Rattle.tx_events.specs.Script.{Cursor, script}

-- 16 bytes of globals and two threads
abbrev pub layout : MemoryLayout
layout = record { globals = 16; limit = 2 }

abbrev pub start : List Event → List ℕ → World Cursor
start events input = first_world no_bytes input (record { events = events; at = 0 })

-- the first 8 bytes of the globals
abbrev pub first_bytes : (ℕ → ℕ) → List ℕ
first_bytes memory = byte_at memory 65536 ∷ byte_at memory 65537 ∷ byte_at memory 65538 ∷ byte_at memory 65539 ∷ byte_at memory 65540 ∷ byte_at memory 65541
    ∷ byte_at memory 65542 ∷ byte_at memory 65543 ∷ []

-- this order leads to a world with these first bytes, output, input left and end
pub record LeadsTo (events : List Event) (input order bytes out left : List ℕ) (end : Option End) : Type 0 where
  pub world : World Cursor
  pub replays : Replays script layout (start events input) order world
  pub bytes_are : first_bytes world.memory ≡ bytes
  pub out_is : world.out ≡ out
  pub left_is : world.input ≡ left
  pub end_is : world.end ≡ end

-- after this order no step of thread t is enabled
abbrev pub Waits : List Event → List ℕ → ℕ → Type 0
Waits events order t = (w v : World Cursor) → Replays script layout (start events []) order w → Step script layout t w v → ⊥

abbrev pub no_change : List ℕ
no_change = 0 ∷ 0 ∷ 0 ∷ 0 ∷ 0 ∷ 0 ∷ 0 ∷ 0 ∷ []

-- a block that commits, with a synchronized block in it
abbrev pub committing : List Event
committing = Silent ∷ BeginAtomic NoExcept ∷ Store 65536 2 258 false ∷ Load 65536 1 false ∷ BeginSync ∷ Store 65540 4 50595078 false ∷ EndSync ∷ EndAtomic
    ∷ Out 65 ∷ Stop (Exit (pos 3)) ∷ []

-- a block that cancels inside one that commits by an exception
abbrev pub cancelling : List Event
cancelling = BeginAtomic Commit ∷ Store 65536 1 1 false ∷ BeginAtomic Cancel ∷ Store 65536 1 2 false ∷ Store 65537 1 3 false ∷ Raise Cancel true
    ∷ Store 65538 1 4 false ∷ Raise Commit true ∷ Store 65539 1 5 true ∷ []

-- an exception leaves a block that may not be left so
abbrev pub aborting : List Event
aborting = BeginAtomic NoExcept ∷ Raise NoExcept true ∷ []

-- an exception whose type does not support cancellation leaves an atomic_cancel
abbrev pub failing : List Event
failing = BeginAtomic Cancel ∷ Store 65536 1 1 false ∷ Raise Cancel false ∷ []

-- a synchronized block beside a thread with a block and a synchronized block
abbrev pub sharing : List Event
sharing = Spawn 6 (pos 0) ∷ BeginSync ∷ Store 65536 8 578437695752307201 false ∷ EndSync ∷ Join (pos 1) ∷ Stop (Exit (pos 0))
    ∷ BeginAtomic NoExcept ∷ Store 65542 2 0 false ∷ EndAtomic ∷ BeginSync ∷ EndSync ∷ Done ∷ []

-- a thread beside a synchronized block waits with its own
abbrev pub locking : List Event
locking = Spawn 2 (pos 0) ∷ BeginSync ∷ BeginSync ∷ EndSync ∷ EndSync ∷ []

abbrev pub talking : List Event
talking = Out 72 ∷ Inp ∷ Out 73 ∷ Inp ∷ Inp ∷ Out 74 ∷ []

-- a list of events that keeps the replies to it
pub record Listener : Type 0 where
  pub cursor : Cursor
  pub heard : List Reply

abbrev pub listening : Thread Listener
listening = record {
  next = λ s. script.next s.cursor;
  after = λ s reply. record { cursor = script.after s.cursor reply; heard = s.heard ++ reply ∷ [] };
  child = λ s number func arg. record { cursor = script.child s.cursor number func arg; heard = [] };
  blocks = λ s. script.blocks s.cursor;
}

abbrev pub heard_by : Option (Alive Listener) → List Reply
heard_by None = []
heard_by (Some u) = u.state.heard

-- this order leads to a world in which thread 0 has got these replies
pub record Hears (events : List Event) (input order : List ℕ) (replies : List Reply) : Type 0 where
  pub world : World Listener
  pub replays : Replays listening layout (first_world no_bytes input (record { cursor = record { events = events; at = 0 }; heard = [] })) order world
  pub heard_is : heard_by (world.threads 0) ≡ replies

abbrev pub asking : List Event
asking = Store 65536 4 16909060 false ∷ Load 65537 1 false ∷ Load 65536 2 false ∷ Load 65536 8 false ∷ Inp ∷ Inp ∷ Spawn 0 (pos 0) ∷ []

abbrev pub asking_inside : List Event
asking_inside = BeginAtomic Commit ∷ Store 65540 4 16909060 false ∷ Load 65536 8 false ∷ BeginAtomic Cancel ∷ Store 65540 4 0 false ∷ Raise Cancel true
    ∷ Load 65540 4 false ∷ EndAtomic ∷ []

abbrev pub cells : List GlobalCell
cells = record { offset = 0; size = 2; value = 258 } ∷ record { offset = 4; size = 4; value = 50595078 } ∷ []
