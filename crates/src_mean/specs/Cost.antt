-- Cost: how many steps of a thread a replay takes. Each silent step and each event counts one.
use Rattle.std.specs.Prelude.{ℕ, ◌+◌, List, [], ◌∷◌}
use Rattle.cpp_tree.specs.tx_events.declared.Event.{Event}
use Rattle.cpp_tree.specs.tx_events.declared.Event.TheVariants.{BeginAtomic}
use Rattle.cpp_tree.specs.tx_events.Thread.{Thread}
use Rattle.cpp_tree.specs.tx_events.Memory.{MemoryLayout}
use Rattle.cpp_tree.specs.tx_events.Alone.{Inner, Inside, at_start, goes_on}
use Rattle.cpp_tree.specs.tx_events.World.{World, SilentSteps, none, one_more, EventStep, Step, Replays}

abbrev pub silent_cost : {S : Type 0} {a : Thread S} {s r : S} → SilentSteps a s r → ℕ
silent_cost none = 0
silent_cost (one_more steps e) = silent_cost steps + 1

-- the steps inside a block, up to its last event
abbrev pub inside_cost : {S : Type 0} {a : Thread S} {p : MemoryLayout} {i j : Inner S} → Inside a p i j → ℕ
inside_cost at_start = 0
inside_cost (goes_on steps e) = inside_cost steps + 1

-- the first event of a block, what is inside it, and its last event; any other event alone
abbrev pub event_cost : {S : Type 0} (a : Thread S) (p : MemoryLayout) (t : ℕ) (w : World S) (s : S) (e : Event) (v : World S) → EventStep a p t w s e v → ℕ
event_cost a p t w s (BeginAtomic kind) v step = 1 + inside_cost (step.1).run + 1
event_cost a p t w s e v step = 1

abbrev pub step_cost : {S : Type 0} (a : Thread S) (p : MemoryLayout) (t : ℕ) (w v : World S) → Step a p t w v → ℕ
step_cost a p t w v step = silent_cost step.silents + event_cost a p t w step.before (a.next step.before) v step.does

abbrev pub cost : {S : Type 0} (a : Thread S) (p : MemoryLayout) (w : World S) (order : List ℕ) (v : World S) → Replays a p w order v → ℕ
cost a p w [] v replay = 0
cost a p w (t ∷ ts) v replay = step_cost a p t w replay.0 replay.1 + cost a p replay.0 ts v replay.2
