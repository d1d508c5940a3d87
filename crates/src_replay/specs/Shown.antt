-- The world that the code's world shows, and what a step of the code does to it.
use Rattle.std.specs.Prelude.{◌≡◌, ◌≤◌, ◌+◌, ℕ, Bool, true, false, List, length, take, Option, Some, None, slice_get}
use Rattle.tx_events.specs.declared.BlockKind.{BlockKind}
use Rattle.tx_events.specs.declared.Event.{Event}
use Rattle.tx_events.specs.declared.Event.TheVariants.{BeginAtomic}
use Rattle.tx_events.specs.declared.TheConstants.{THREAD_LIMIT}
use Rattle.tx_events.specs.declared.Reply.{Reply}
use Rattle.tx_events.specs.declared.Reply.TheVariants.{Nothing}
use Rattle.tx_events.specs.Memory.{MemoryLayout, update}
use Rattle.tx_events.specs.Thread.{is_silent}
use Rattle.tx_events.specs.Alone.{Inner, Inside, begin, inner_by, Leaves as LeavesIn, Halts as HaltsIn, Never as NeverIn, Goes as GoesIn}
use Rattle.tx_events.specs.World.{World as Worlds, Alive as Started, alive, goes, SilentSteps, lock_free, EventStep, Step as Steps, Replays}
use Rattle.tx_memory.specs.View.{layout_of, words_of}
use Rattle.src_mean.specs.Linked.{Program}
use Rattle.src_mean.specs.Frames.{State}
use Rattle.src_mean.specs.Source.{source}
use Rattle.src_mean.specs.Laws.{IsSettled}
use Rattle.src_mean.specs.Cost.{silent_cost, inside_cost, event_cost, step_cost, cost}
use Rattle.src_bind.specs.Tables.{Given}
use Rattle.src_replay.specs.Orders.{program_in, layout_in, first_in}
use Rattle.src_thread.specs.Thread.{program_of, shown}
use Rattle.src_replay.specs.declared.block.Step.{Step}
use Rattle.src_replay.specs.declared.block.Step.TheVariants.{Goes, Leaves, Halts, Never}
use Rattle.src_replay.specs.declared.nested.Nested.{Nested}
use Rattle.src_replay.specs.declared.threads.Alive.{Alive}
use Rattle.src_replay.specs.declared.world.Entry.{Entry}
use Rattle.src_replay.specs.declared.world.Entry.TheVariants.{Taken, Refused, Spent}
use Rattle.src_replay.specs.declared.world.World.{World}
use Rattle.src_replay.specs.Entries.{comes}
use Rattle.src_replay.specs.Entries as entries
use Rattle.src_replay.specs.Undone.{copies}

abbrev pub alive_in : Option Alive → Option (Started State)
alive_in None = None
alive_in (Some x) = Some (record { state = shown x.thread; ended = x.ended })

-- the threads that were started, by their numbers
unfoldable pub threads_of : List Alive → ℕ → Option (Started State)
threads_of xs t = alive_in (slice_get xs t)

abbrev pub world_of : World → Worlds State
world_of w = record {
  memory = words_of w.memory;
  threads = threads_of w.threads.alive.items;
  started = length w.threads.alive.items;
  lock = record { holder = w.holder; depth = w.depth };
  out = w.out.items;
  input = w.input.now;
  end = w.end;
}

-- a thread of this program, between two events
pub record IsOf (program : Program) (x : Alive) : Type 0 where
  pub runs : program_of x.thread ≡ program
  pub settled : IsSettled (shown x.thread)

-- threads of this program, no more than there may be
pub record Stand (program : Program) (p : MemoryLayout) (xs : List Alive) : Type 0 where
  pub each : (k : ℕ) (x : Alive) → slice_get xs k ≡ Some x → IsOf program x
  pub few : length xs ≤ p.limit
  pub limit : p.limit ≡ THREAD_LIMIT

abbrev pub Stands : Program → World → Type 0
Stands program w = Stand program (layout_of w.memory) w.threads.alive.items

-- one of the threads was changed
pub record IsSet (program : Program) (p : MemoryLayout) (t : ℕ) (s : Started State) (old new : List Alive) : Type 0 where
  pub threads : threads_of new ≡ update (threads_of old) t (Some s)
  pub count : length new ≡ length old
  pub stand : Stand program p new

-- one more thread was started
pub record IsMore (program : Program) (s : State) (old new : List Alive) : Type 0 where
  pub threads : threads_of new ≡ update (threads_of old) (length old) (alive s)
  pub count : length new ≡ length old + 1
  pub each : (k : ℕ) (x : Alive) → slice_get new k ≡ Some x → IsOf program x

-- It shows this world; where the program has ended, its output, its end and how many threads were started.
pub record Shows (w : World) (v : Worlds State) : Type 0 where
  pub end_is : w.end ≡ v.end
  pub out_is : w.out.items ≡ v.out
  pub started_is : length w.threads.alive.items ≡ v.started
  pub all : w.end ≡ None → world_of w ≡ v

-- what stays in a step: threads of the program, and what is mapped
pub record Stays (program : Program) (old new : World) : Type 0 where
  pub stands : Stands program new
  pub layout : layout_of new.memory ≡ layout_of old.memory

-- the thread went on
pub record WentOn (program : Program) (t : ℕ) (s : State) (reply : Reply) (old new : World) (e : Entry) : Type 0 where
  pub taken : e ≡ Taken
  pub world : world_of new ≡ goes t (world_of old) ((source program).after s reply)
  pub stays : Stays program old new
  pub left : new.left ≡ old.left

-- what an event of thread t, in the state s, did to the world w
pub record Took (program : Program) (t : ℕ) (w : Worlds State) (s : State) (event : Event) (old new : World) (e : Entry) : Type 0 where
  pub taken : e ≡ Taken
  pub world : Worlds State
  pub does : EventStep (source program) (layout_of old.memory) t w s event world
  pub shows : Shows new world
  pub stays : Stays program old new
  pub left : new.left ≡ old.left

-- what an event of thread t, in the state s, did, and its cost, for which one unit was paid already
pub record Does (program : Program) (p : MemoryLayout) (t : ℕ) (w : Worlds State) (s : State) (event : Event) (world : Worlds State)
    (left now : ℕ) : Type 0 where
  pub does : EventStep (source program) p t w s event world
  pub cost : event_cost (source program) p t w s event world does + now ≡ left + 1

-- thread t came so far in the outermost block that it begins in the state s
pub record Inmost (program : Program) (p : MemoryLayout) (t : ℕ) (w : Worlds State) (s : State) : Type 0 where
  pub kind : BlockKind
  pub last : Inner State
  pub begins : s.event ≡ BeginAtomic kind
  pub free : lock_free t w.lock ≡ true
  pub run : Inside (source program) p (begin ((source program).after s Nothing) w.memory) last

-- the event of thread t, in the state s, or its whole block
pub record ActTaken (program : Program) (p : MemoryLayout) (t : ℕ) (w : Worlds State) (s : State) (left : ℕ) (new : World) : Type 0 where
  pub world : Worlds State
  pub done : Does program p t w s s.event world left new.left
  pub shows : Shows new world
  pub stands : Stands program new
  pub layout : layout_of new.memory ≡ p

-- it does not come to its end: what comes next in the block may not come there
pub record ActRefused (program : Program) (p : MemoryLayout) (t : ℕ) (w : Worlds State) (s : State) (left : ℕ) : Type 0 where
  pub at : Inmost program p t w s
  pub cost : inside_cost at.run ≤ left
  pub never : comes (inner_by (source program) p at.last at.last.state.event) ≡ false

-- or all units were taken
pub record ActSpent (program : Program) (p : MemoryLayout) (t : ℕ) (w : Worlds State) (s : State) (left : ℕ) : Type 0 where
  pub at : Inmost program p t w s
  pub cost : inside_cost at.run ≡ left
  pub further : comes (inner_by (source program) p at.last at.last.state.event) ≡ true

abbrev pub Acted : Program → MemoryLayout → ℕ → Worlds State → State → ℕ → World → Entry → Type 0
Acted program p t w s left new Taken = ActTaken program p t w s left new
Acted program p t w s left new Refused = ActRefused program p t w s left
Acted program p t w s left new Spent = ActSpent program p t w s left

-- the silent steps of thread t from the state s so far
pub record Skips (program : Program) (p : MemoryLayout) (t : ℕ) (w : Worlds State) (s : State) (left : ℕ) (now : World) : Type 0 where
  pub here : State
  pub steps : SilentSteps (source program) s here
  pub cost : silent_cost steps + now.left ≡ left
  pub world : world_of now ≡ goes t w here
  pub stands : Stands program now
  pub layout : layout_of now.memory ≡ p

-- they came to an event that is not silent
pub record SkipsAll (program : Program) (p : MemoryLayout) (t : ℕ) (w : Worlds State) (s : State) (left : ℕ) (now : World) : Type 0 where
  pub skips : Skips program p t w s left now
  pub loud : is_silent skips.here.event ≡ false

-- or more of them come than there are units
pub record SkipsOn (program : Program) (p : MemoryLayout) (t : ℕ) (w : Worlds State) (s : State) (left : ℕ) (now : World) : Type 0 where
  pub skips : Skips program p t w s left now
  pub silent : is_silent skips.here.event ≡ true
  pub spent : now.left ≡ 0

abbrev pub Skipped : Program → MemoryLayout → ℕ → Worlds State → State → ℕ → World → Bool → Type 0
Skipped program p t w s left now true = SkipsAll program p t w s left now
Skipped program p t w s left now false = SkipsOn program p t w s left now

-- thread t is at this point of its block, which it began in the world w
pub record InBlock (t : ℕ) (w : Worlds State) (i : Inner State) (now : World) (nested : Nested) : Type 0 where
  pub world : world_of now ≡ record w { memory = i.memory; threads = update w.threads t (alive i.state) }
  pub noted : copies nested (words_of now.memory) ≡ i.copies

-- the block goes on from there
pub record BlockGoes (program : Program) (p : MemoryLayout) (t : ℕ) (w : Worlds State) (i : Inner State) (new : World) (nested : Nested) : Type 0 where
  pub next : Inner State
  pub goes_to : inner_by (source program) p i i.state.event ≡ GoesIn next
  pub at : InBlock t w next new nested

-- it is left
pub record BlockLeaves (program : Program) (p : MemoryLayout) (t : ℕ) (w : Worlds State) (i : Inner State) (new : World) : Type 0 where
  pub state : State
  pub leaves : inner_by (source program) p i i.state.event ≡ LeavesIn state (words_of new.memory)
  pub world : world_of new ≡ record w { memory = words_of new.memory; threads = update w.threads t (alive state) }

-- what a step in a block came to
abbrev pub BlockSteps : Program → MemoryLayout → ℕ → Worlds State → Inner State → World → Nested → Step → Type 0
BlockSteps program p t w i new nested Goes = BlockGoes program p t w i new nested
BlockSteps program p t w i new nested Leaves = BlockLeaves program p t w i new
BlockSteps program p t w i new nested (Halts end) = inner_by (source program) p i i.state.event ≡ HaltsIn end
BlockSteps program p t w i new nested Never = inner_by (source program) p i i.state.event ≡ NeverIn

-- the threads are still those of the program
pub record InnerStep (program : Program) (p : MemoryLayout) (t : ℕ) (w : Worlds State) (i : Inner State) (new : World) (nested : Nested)
    (step : Step) : Type 0 where
  pub stands : Stands program new
  pub steps : BlockSteps program p t w i new nested step

-- the steps so far in the block that thread t begins in the state s
pub record BlockRun (program : Program) (p : MemoryLayout) (t : ℕ) (w : Worlds State) (s : State) (left : ℕ) (now : World) (nested : Nested) : Type 0 where
  pub last : Inner State
  pub run : Inside (source program) p (begin ((source program).after s Nothing) w.memory) last
  pub cost : inside_cost run + now.left ≡ left
  pub at : InBlock t w last now nested
  pub stands : Stands program now

-- a whole step of thread t
pub record StepTaken (program : Program) (p : MemoryLayout) (t : ℕ) (w : Worlds State) (left : ℕ) (new : World) : Type 0 where
  pub world : Worlds State
  pub step : Steps (source program) p t w world
  pub shows : Shows new world
  pub stands : Stands program new
  pub layout : layout_of new.memory ≡ p
  pub cost : step_cost (source program) p t w world step + new.left ≡ left

-- what an entry came to
abbrev pub Stepped : Program → MemoryLayout → ℕ → Worlds State → ℕ → World → Entry → Type 0
Stepped program p t w left new Taken = StepTaken program p t w left new
Stepped program p t w left new Refused = entries.Refused (source program) p t w left
Stepped program p t w left new Spent = entries.Unfinished (source program) p t w left

-- so many entries of the order lead from the first world to the one that is shown
pub record Ran (b : Given) (input order : List ℕ) (most count : ℕ) (now : World) : Type 0 where
  pub world : Worlds State
  pub replays : Replays (source (program_in b)) (layout_in b) (first_in b input) (take count order) world
  pub cost_is : cost (source (program_in b)) (layout_in b) (first_in b input) (take count order) world replays + now.left ≡ most
  pub shows : Shows now world
  pub stands : Stands (program_in b) now
  pub layout : layout_of now.memory ≡ layout_in b
