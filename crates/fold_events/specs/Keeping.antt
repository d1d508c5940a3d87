-- What it is for a linked program to do what another one does, and to cost no more.
use Rattle.std.specs.Prelude.{◌≤◌, ℕ, ℤ, Bool, List, [], ◌∷◌, Option}
use Rattle.cpp_tree.specs.tx_events.declared.TheConstants.{THREAD_LIMIT}
use Rattle.cpp_tree.specs.tx_events.Memory.{MemoryLayout}
use Rattle.cpp_tree.specs.tx_events.Same.{SameEvents, StepsWithin, SameChildren, with_threads}
use Rattle.cpp_tree.specs.tx_events.World.{Alive, World, Replays, first_world}
use Rattle.cpp_tree.specs.Units.{SlotFunc, TypedProgram}
use Rattle.src_mean.specs.Cost.{cost}
use Rattle.src_mean.specs.Linked.{Program}
use Rattle.src_mean.specs.Links.{linked}
use Rattle.src_mean.specs.Frames.{State, Starts}
use Rattle.src_mean.specs.Source.{source, enter, empty_stack, begins, main_state}

-- what units are linked by: which functions have safe bodies, what a slot names, and the name of `main`
pub record Linking : Type 0 where
  pub safe : ℕ → ℕ → Bool
  pub symbol : SlotFunc → Option (List ℕ)
  pub main : List ℕ

abbrev pub linked_by : Linking → TypedProgram → Program
linked_by l t = linked l.safe l.symbol l.main t

-- the first state of a thread that calls the function of this number with these words, as thread 0 calls `main` or as others call theirs
abbrev pub calls : Program → (thread number : ℕ) → (words : List ℕ) → (main : Bool) → State
calls p thread number words main = enter (empty_stack thread) words (p.func number) (Starts main ∷ [])

-- the steps of these threads lead the program from its start to this world
abbrev pub Replayed : Program → MemoryLayout → (memory : ℕ → ℕ) → (input order : List ℕ) → World State → Type 0
Replayed p layout memory input order v = Replays (source p) layout (first_world memory input (main_state p)) order v

abbrev pub cost_of : (p : Program) (layout : MemoryLayout) (memory : ℕ → ℕ) (input order : List ℕ) (v : World State) → Replayed p layout memory input order v
    → ℕ
cost_of p layout memory input order v replay = cost (source p) layout (first_world memory input (main_state p)) order v replay

-- and to this world but for the states of its threads
pub record IsReplay (p : Program) (layout : MemoryLayout) (memory : ℕ → ℕ) (input order : List ℕ) (v : World State) : Type 0 where
  pub threads : ℕ → Option (Alive State)
  pub replay : Replayed p layout memory input order (with_threads v threads)

-- at most at this cost
pub record CostsAtMost (p : Program) (layout : MemoryLayout) (memory : ℕ → ℕ) (input order : List ℕ) (v : World State) (most : ℕ) : Type 0 where
  pub threads : ℕ → Option (Alive State)
  pub replay : Replayed p layout memory input order (with_threads v threads)
  pub within : cost_of p layout memory input order (with_threads v threads) replay ≤ most

-- Each function has the same events, as has the whole program with all threads that it starts; up to each event a thread has taken no more steps.
-- So each replay of the one is a replay of the other, in the same order, whole blocks included, and costs no more.
pub record Keeps (p q : Program) : Type 0 where
  pub functions : (thread number : ℕ) (words : List ℕ) (main : Bool)
      → SameEvents (source p) (source q) (calls p thread number words main) (calls q thread number words main)
  pub functions_cost : (thread number : ℕ) (words : List ℕ) (main : Bool)
      → StepsWithin (source p) (source q) 1 0 (calls p thread number words main) (calls q thread number words main)
  pub threads : (thread address : ℕ) (arg : ℤ) → SameEvents (source p) (source q) (begins p thread address arg) (begins q thread address arg)
  pub threads_cost : (thread address : ℕ) (arg : ℤ) → StepsWithin (source p) (source q) 1 0 (begins p thread address arg) (begins q thread address arg)
  pub main : SameEvents (source p) (source q) (main_state p) (main_state q)
  pub main_cost : StepsWithin (source p) (source q) 1 0 (main_state p) (main_state q)
  pub children : SameChildren (source p) (source q) (main_state p) (main_state q)
  pub replays : (layout : MemoryLayout) (memory : ℕ → ℕ) (input order : List ℕ) (v : World State) (replay : Replayed p layout memory input order v)
      → CostsAtMost q layout memory input order v (cost_of p layout memory input order v replay)
  pub back : (layout : MemoryLayout) (memory : ℕ → ℕ) (input order : List ℕ) (v : World State) → layout.limit ≤ THREAD_LIMIT
      → Replayed q layout memory input order v → IsReplay p layout memory input order v
