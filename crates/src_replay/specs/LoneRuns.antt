-- The run of a program by itself, in which threads take turns: which events come in it, and what is told of it.
use Rattle.std.specs.Prelude.{◌≡◌, ◌+◌, ◌%◌, ◌<◌, ◌≤◌, ℕ, cond, List, [], ◌∷◌, ◌++◌, Some, None}
use Rattle.tx_events.specs.declared.End.{End}
use Rattle.tx_events.specs.declared.Event.{Event}
use Rattle.tx_events.specs.declared.Event.TheVariants.{BeginAtomic}
use Rattle.tx_events.specs.Memory.{MemoryLayout}
use Rattle.tx_events.specs.Thread.{Thread, is_silent}
use Rattle.tx_events.specs.Alone.{Inner, Inside, at_start, goes_on}
use Rattle.tx_events.specs.World.{World, EventStep, Step, Replays}
use Rattle.src_bind.specs.Tables.{Given}
use Rattle.src_mean.specs.Cost.{step_cost, cost}
use Rattle.src_mean.specs.Source.{source}
use Rattle.src_replay.specs.declared.alone.AloneEnd.{AloneEnd}
use Rattle.src_replay.specs.declared.alone.AloneEnd.TheVariants.{Ended, NotEnabled, InBlock, Spent}
use Rattle.src_replay.specs.declared.alone.AloneRun.{AloneRun}
use Rattle.src_replay.specs.Entries.{Moment, outside, within, units, Refused, over, absent, stays, Unfinished}
use Rattle.src_replay.specs.Orders.{program_in, layout_in, first_in}

-- Events

-- what is told of an event: nothing of a silent one
abbrev pub loud : Event → List Event
loud e = cond (is_silent e) [] (e ∷ [])

-- the events of the steps inside a block, up to its last event
abbrev pub inside_events : {S : Type 0} (a : Thread S) (p : MemoryLayout) {i j : Inner S} → Inside a p i j → List Event
inside_events a p at_start = []
inside_events a p (goes_on {j} {k} steps e) = inside_events a p steps ++ loud (a.next j.state)

-- the first event of a block, those inside it, and its last; any other event alone
abbrev pub event_events : {S : Type 0} (a : Thread S) (p : MemoryLayout) (t : ℕ) (w : World S) (s : S) (e : Event) (v : World S) → EventStep a p t w s e v
    → List Event
event_events a p t w s (BeginAtomic kind) v step = BeginAtomic kind ∷ (inside_events a p (step.1).run ++ loud (a.next (step.1).last.state))
event_events a p t w s e v step = e ∷ []

abbrev pub step_events : {S : Type 0} (a : Thread S) (p : MemoryLayout) (t : ℕ) (w v : World S) → Step a p t w v → List Event
step_events a p t w v step = event_events a p t w step.before (a.next step.before) v step.does

-- the events of an order
abbrev pub events : {S : Type 0} (a : Thread S) (p : MemoryLayout) (w : World S) (order : List ℕ) (v : World S) → Replays a p w order v → List Event
events a p w [] v replay = []
events a p w (t ∷ ts) v replay = step_events a p t w replay.0 replay.1 ++ events a p replay.0 ts v replay.2

-- those of an entry that is not over: of a block that began, what came in it
abbrev pub moment_events : {S : Type 0} (a : Thread S) (p : MemoryLayout) (t : ℕ) (w : World S) → Moment a p t w → List Event
moment_events a p t w (outside from here is silents) = []
moment_events a p t w (within from before kind last is silents begins free run) = BeginAtomic kind ∷ inside_events a p run

-- those of an entry that has no step, and the units up to where it stays
abbrev pub refused_events : {S : Type 0} (a : Thread S) (p : MemoryLayout) (t : ℕ) (w : World S) (most : ℕ) → Refused a p t w most → List Event
refused_events a p t w most (over e) = []
refused_events a p t w most (absent e) = []
refused_events a p t w most (stays m few stuck) = moment_events a p t w m

abbrev pub refused_units : {S : Type 0} (a : Thread S) (p : MemoryLayout) (t : ℕ) (w : World S) (most : ℕ) → Refused a p t w most → ℕ
refused_units a p t w most (over e) = 0
refused_units a p t w most (absent e) = 0
refused_units a p t w most (stays m few stuck) = units a p t w m

-- Turns

-- Turn k is an entry of thread t: the turns from n on are of thread 0, 1, .. in a circle, as many as were started (the picker `round:1`), and those before turn
-- k pass, since their threads have no step.
pub record IsTurn {S : Type 0} (a : Thread S) (p : MemoryLayout) (w : World S) (n k t : ℕ) : Type 0 where
  pub behind : n ≤ k
  pub passes : (i : ℕ) (v : World S) → n ≤ i → i < k → Step a p (i % w.started) w v → ⊥
  pub is : t ≡ k % w.started

-- the entries of an order take turns, from turn n on, and behind the last of them comes turn m
abbrev pub TakesTurns : {S : Type 0} (a : Thread S) (p : MemoryLayout) (n m : ℕ) (w : World S) (order : List ℕ) (v : World S) → Replays a p w order v → Type 0
TakesTurns a p n m w [] v replay = n ≡ m
TakesTurns a p n m w (t ∷ ts) v replay = (k : ℕ) × IsTurn a p w n k t × TakesTurns a p (k + 1) m replay.0 ts v replay.2

-- Runs

-- The entries of this order, in which threads take turns, lead from the first world to this one, and so many units are left of those that were given.
pub record CameTo {S : Type 0} (a : Thread S) (p : MemoryLayout) (first : World S) (order : List ℕ) (most : ℕ) : Type 0 where
  pub world : World S
  pub replays : Replays a p first order world
  pub turn : ℕ
  pub turns : TakesTurns a p 0 turn first order world replays
  pub left : ℕ
  pub paid : cost a p first order world replays + left ≡ most

-- the program has ended so
pub record HasEnded {S : Type 0} (a : Thread S) (p : MemoryLayout) (first : World S) (most : ℕ) (r : AloneRun) (end : End) : Type 0 where
  pub came : CameTo a p first r.order.items most
  pub end_is : came.world.end ≡ Some end
  pub out_is : r.out.items ≡ came.world.out
  pub events_are : r.events.items ≡ events a p first r.order.items came.world came.replays
  pub cost_is : r.cost ≡ cost a p first r.order.items came.world came.replays

-- it has not, and no thread has a step, which the units that are left show of each
pub record IsStuck {S : Type 0} (a : Thread S) (p : MemoryLayout) (first : World S) (most : ℕ) (r : AloneRun) : Type 0 where
  pub came : CameTo a p first r.order.items most
  pub going : came.world.end ≡ None
  pub refused : (t : ℕ) → Refused a p t came.world came.left
  pub no_step : (t : ℕ) (v : World S) → Step a p t came.world v → ⊥
  pub out_is : r.out.items ≡ came.world.out
  pub events_are : r.events.items ≡ events a p first r.order.items came.world came.replays
  pub cost_is : r.cost ≡ cost a p first r.order.items came.world came.replays

-- it has not, and in the block of the next thread comes what may not come there
pub record IsBroken {S : Type 0} (a : Thread S) (p : MemoryLayout) (first : World S) (most : ℕ) (r : AloneRun) : Type 0 where
  pub came : CameTo a p first r.order.items most
  pub going : came.world.end ≡ None
  pub turn : ℕ
  pub thread : ℕ
  pub next : IsTurn a p came.world came.turn turn thread
  pub refused : Refused a p thread came.world came.left
  pub no_step : (v : World S) → Step a p thread came.world v → ⊥
  pub out_is : r.out.items ≡ came.world.out
  pub events_are : r.events.items ≡ events a p first r.order.items came.world came.replays ++ refused_events a p thread came.world came.left refused
  pub cost_is : r.cost ≡ cost a p first r.order.items came.world came.replays + refused_units a p thread came.world came.left refused

-- it has not, and the entry of the next thread takes more than the units that are left
pub record IsCutOff {S : Type 0} (a : Thread S) (p : MemoryLayout) (first : World S) (most : ℕ) (r : AloneRun) : Type 0 where
  pub came : CameTo a p first r.order.items most
  pub turn : ℕ
  pub thread : ℕ
  pub next : IsTurn a p came.world came.turn turn thread
  pub unfinished : Unfinished a p thread came.world came.left
  pub costs_more : (v : World S) (step : Step a p thread came.world v) → came.left < step_cost a p thread came.world v step
  pub out_is : r.out.items ≡ came.world.out
  pub events_are : r.events.items ≡ events a p first r.order.items came.world came.replays ++ moment_events a p thread came.world unfinished.moment
  pub cost_is : r.cost ≡ most

-- what is told of the run of a program by itself
abbrev pub IsRunAlone : {S : Type 0} → Thread S → MemoryLayout → World S → ℕ → AloneRun → AloneEnd → Type 0
IsRunAlone a p first most r (Ended end) = HasEnded a p first most r end
IsRunAlone a p first most r NotEnabled = IsStuck a p first most r
IsRunAlone a p first most r InBlock = IsBroken a p first most r
IsRunAlone a p first most r Spent = IsCutOff a p first most r

-- the same of a program that is bound
abbrev pub RunsAlone : Given → List ℕ → ℕ → AloneRun → Type 0
RunsAlone g input most r = IsRunAlone (source (program_in g)) (layout_in g) (first_in g input) most r r.stopped
