-- What the replay of an order answers.
use Rattle.std.specs.Prelude.{◌≡◌, ◌≤◌, ◌<◌, ◌+◌, ◌/◌, ◌*◌, ℕ, List, take, slice_get, Some, Result, Ok, Err}
use Rattle.tx_events.specs.declared.TheConstants.{THREAD_LIMIT}
use Rattle.tx_events.specs.Memory.{MemoryLayout, no_bytes, with_cells}
use Rattle.tx_events.specs.Thread.{Thread}
use Rattle.tx_events.specs.World.{World, Step, Replays, first_world}
use Rattle.src_bind.specs.Tables.{Given, typed, linked_of}
use Rattle.src_mean.specs.Linked.{Program}
use Rattle.src_mean.specs.Links.{first_cells, globals_size}
use Rattle.src_mean.specs.Frames.{State}
use Rattle.src_mean.specs.Source.{source, main_state}
use Rattle.src_mean.specs.Cost.{step_cost, cost}
use Rattle.src_replay.specs.declared.replaying.ReplayFault.{ReplayFault}
use Rattle.src_replay.specs.declared.replaying.ReplayFault.TheVariants.{NotARun, Spent, Memory}
use Rattle.src_replay.specs.declared.replaying.Replayed.{Replayed}
use Rattle.src_replay.specs.Entries.{Refused, Unfinished}

-- The order leads from the first world to this one, with this output and end and so many threads started, and that is what it costs, which is at most what was given.
pub record IsReplay {S : Type 0} (a : Thread S) (p : MemoryLayout) (first : World S) (order : List ℕ) (most : ℕ) (r : Replayed) : Type 0 where
  pub world : World S
  pub replays : Replays a p first order world
  pub out_is : r.out.items ≡ world.out
  pub end_is : r.end ≡ world.end
  pub started_is : r.started ≡ world.started
  pub cost_is : r.cost ≡ cost a p first order world replays
  pub within : r.cost ≤ most

-- The entries before one lead from the first world to this one, and so many units are left of those that were given.
pub record IsBegun {S : Type 0} (a : Thread S) (p : MemoryLayout) (first : World S) (order : List ℕ) (most index : ℕ) : Type 0 where
  pub thread : ℕ
  pub entry : slice_get order index ≡ Some thread
  pub world : World S
  pub replays : Replays a p first (take index order) world
  pub left : ℕ
  pub paid : cost a p first (take index order) world replays + left ≡ most

-- the entry has no step, which the units that are left show
pub record IsNotARun {S : Type 0} (a : Thread S) (p : MemoryLayout) (first : World S) (order : List ℕ) (most index : ℕ) : Type 0 where
  pub begun : IsBegun a p first order most index
  pub refused : Refused a p begun.thread begun.world begun.left
  pub no_step : (v : World S) → Step a p begun.thread begun.world v → ⊥

-- the entry takes more than the units that are left
pub record IsSpent {S : Type 0} (a : Thread S) (p : MemoryLayout) (first : World S) (order : List ℕ) (most index : ℕ) : Type 0 where
  pub begun : IsBegun a p first order most index
  pub unfinished : Unfinished a p begun.thread begun.world begun.left
  pub costs_more : (v : World S) (step : Step a p begun.thread begun.world v) → begun.left < step_cost a p begun.thread begun.world v step

-- a replay of that order has this output, end and cost, and starts so many threads
pub record IsOnly {S : Type 0} (a : Thread S) (p : MemoryLayout) (first : World S) (order : List ℕ) (r : Replayed) (v : World S)
    (replay : Replays a p first order v) : Type 0 where
  pub out_is : r.out.items ≡ v.out
  pub end_is : r.end ≡ v.end
  pub started_is : r.started ≡ v.started
  pub cost_is : r.cost ≡ cost a p first order v replay

-- the answer on an order, want of memory aside
abbrev pub IsAnswer : {S : Type 0} → Thread S → MemoryLayout → World S → List ℕ → ℕ → Result Replayed ReplayFault → Type 0
IsAnswer a p first order most (Ok r) = IsReplay a p first order most r
IsAnswer a p first order most (Err (NotARun index)) = IsNotARun a p first order most index
IsAnswer a p first order most (Err (Spent index)) = IsSpent a p first order most index
IsAnswer a p first order most (Err Memory) = Unit {0}

-- the linked program of what is bound
abbrev pub program_in : Given → Program
program_in g = linked_of g

-- its globals, and as many stacks as there may be threads
abbrev pub layout_in : Given → MemoryLayout
layout_in g = record { globals = (globals_size (typed g) + 7) / 8 * 8; limit = THREAD_LIMIT }

-- the world at its start: the first bytes of its globals, this input, and thread 0 at the start of `main`
abbrev pub first_in : Given → List ℕ → World State
first_in g input = first_world (with_cells no_bytes (first_cells (typed g) (program_in g))) input (main_state (program_in g))

-- the answer on an order of threads of a program that is bound
abbrev pub Answers : Given → List ℕ → List ℕ → ℕ → Result Replayed ReplayFault → Type 0
Answers g input order most r = IsAnswer (source (program_in g)) (layout_in g) (first_in g input) order most r
