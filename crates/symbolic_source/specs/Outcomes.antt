-- What can come of a step: a state, or what it depends on.
use Rattle.std.specs.Prelude.{ℕ, ℤ, ◌≡◌, ◌%◌, ◌^◌, ◌==◌, Bool, cond, List, ◌∷◌, Some, None, Ok, Err}
use Rattle.cpp_tree.specs.tx_ints.declared.kinds.IntKind.{IntKind}
use Rattle.cpp_tree.specs.tx_ints.declared.kinds.IntKind.TheVariants.{Int, Long}
use Rattle.cpp_tree.specs.tx_ints.declared.kinds.BinOp.{BinOp}
use Rattle.cpp_tree.specs.tx_ints.declared.kinds.ArithTrap.{ArithTrap}
use Rattle.cpp_tree.specs.tx_ints.Words.{value_of_word}
use Rattle.cpp_tree.specs.tx_events.declared.BlockKind.{BlockKind}
use Rattle.cpp_tree.specs.tx_events.declared.Trap.TheVariants.{BadVirtual}
use Rattle.cpp_tree.specs.tx_events.declared.End.{End}
use Rattle.cpp_tree.specs.tx_events.declared.End.TheVariants.{Trapped}
use Rattle.cpp_tree.specs.tx_events.declared.Event.{Event}
use Rattle.cpp_tree.specs.tx_events.declared.Event.TheVariants.{Silent, Load as Reads, Store as Writes, Out, Inp, Spawn as Spawns, Join as Joins, BeginAtomic}
use Rattle.cpp_tree.specs.tx_events.declared.Event.TheVariants.{BeginSync, Stop}
use Rattle.cpp_tree.specs.tx_events.Thread.{Open}
use Rattle.cpp_tree.specs.cpp_layout.Layout.{kind_size}
use Rattle.src_mean.specs.Linked.{Func, Program}
use Rattle.src_mean.specs.Frames.{State, Halted}
use Rattle.src_mean.specs.Frames as frames
use Rattle.src_mean.specs.Source.{applied, trap_of, stored_bytes, closing, end_of, give, leave, invoke, spawn, rethrow, thread_signature}
use Rattle.symbolic_source.specs.Terms.{Term, number, Values, eval}
use Rattle.symbolic_source.specs.Frames.{Waiting, Exit, Callee, Frame, words_of, exit_of, callee_of, below, here_of}

-- an event
pub data Doing : Type 0 where
  silent : Doing
  reads : (address : Term) → (size : ℕ) → (volatile : Bool) → Doing
  writes : (address : Term) → IntKind → (word : Term) → (volatile : Bool) → Doing
  puts_out : (byte : Term) → Doing
  takes_in : Doing
  joins : (id : Term) → Doing
  spawns_thread : (number : ℕ) → (argument : Term) → Doing
  begins_atomic : BlockKind → Doing
  begins_sync : Doing
  ends_block : Open → Doing
  leaves_block : Open → Exit → Doing

pub data Outcome : Type 0 where
  stuck : Outcome  -- not foreseen
  goes : Doing → (temporaries : List Waiting) → List Frame → Outcome  -- a state in which the function at hand has this left
  hands : Term → (temporaries : List Waiting) → Outcome  -- the function is done, and its caller goes on with the value
  goes_out : Exit → (temporaries : List Waiting) → Outcome  -- this leaves the function
  chooses : Term → (zero other : Outcome) → Outcome  -- whether the word is 0
  results : BinOp → IntKind → (left right : Term) → Outcome → Outcome  -- whether the operator traps
  finds : (class slot : ℕ) → (address : Term) → Outcome → Outcome  -- whether the slot has a function
  calls : Callee → List Term → (temporaries : List Waiting) → List Frame → Outcome
  spawns : (address argument : Term) → (temporaries : List Waiting) → List Frame → Outcome
  rethrows : (temporaries : List Waiting) → List Frame → Outcome  -- what a caller's handler has
  halts : End → Outcome

-- a decision that is made where it can be
abbrev pub either : Term → Outcome → Outcome → Outcome
either (number n) zero other = cond (n % 2 ^ 64 == 0) zero other
either w zero other = chooses w zero other

-- the thread stops
pub record Stops (end : End) (s : State) : Type 0 where
  pub here : frames.Here
  pub others : List frames.Frame
  pub is : s ≡ frames.at (Stop end) here (Halted end ∷ others)

module _ (p : Program) (f : Func) (x : Values) where
  abbrev pub event_of : Doing → Event
  event_of silent = Silent
  event_of (reads address size volatile) = Reads (eval p f x address) size volatile
  event_of (writes address kind word volatile) = Writes (eval p f x address) (kind_size kind) (stored_bytes kind (eval p f x word)) volatile
  event_of (puts_out byte) = Out (eval p f x byte)
  event_of takes_in = Inp
  event_of (joins id) = Joins (value_of_word Int (eval p f x id))
  event_of (spawns_thread func argument) = Spawns func (value_of_word Long (eval p f x argument))
  event_of (begins_atomic kind) = BeginAtomic kind
  event_of begins_sync = BeginSync
  event_of (ends_block block) = end_of block
  event_of (leaves_block block exit) = closing block (exit_of p f x exit)

  module _ (rest : List frames.Frame) where
    -- the state has come of it, where the callers of the function at hand have this left to do
    abbrev pub Shows : Outcome → State → Type 0
    Shows stuck s = Unit {0}
    Shows (goes doing ws k) s = s ≡ frames.at (event_of doing) (here_of p f x ws) (below p f x k rest)
    Shows (hands w ws) s = s ≡ give p (here_of p f x ws) (eval p f x w) rest
    Shows (goes_out exit ws) s = s ≡ leave (here_of p f x ws) (exit_of p f x exit) rest
    Shows (chooses w zero other) s = (eval p f x w ≡ 0 → Shows zero s) × ((eval p f x w ≡ 0 → ⊥) → Shows other s)
    Shows (results op kind left right o) s = ((v : ℤ) → applied op kind (eval p f x left) (eval p f x right) ≡ Ok v → Shows o s)
        × ((trap : ArithTrap) → applied op kind (eval p f x left) (eval p f x right) ≡ Err trap → Stops (Trapped (trap_of trap)) s)
    Shows (finds class slot address o) s = ((n : ℕ) → p.slot (eval p f x address) class slot ≡ Some n → Shows o s)
        × (p.slot (eval p f x address) class slot ≡ None → Stops (Trapped BadVirtual) s)
    Shows (calls callee words ws k) s = s ≡ invoke p (here_of p f x ws) (callee_of p f x callee) (words_of p f x words) (below p f x k rest)
    Shows (spawns address argument ws k) s = s ≡ spawn (here_of p f x ws) (p.pointed (eval p f x address) thread_signature) (eval p f x argument)
        (below p f x k rest)
    Shows (rethrows ws k) s = s ≡ rethrow (here_of p f x ws) (frames.handled rest) (below p f x k rest)
    Shows (halts end) s = Stops end s
