-- The world in which each outermost atomic block is one indivisible step.
use Rattle.std.specs.Prelude.{ℕ, ℤ, pos, negsuc, zero, suc, ◌≡◌, ◌==◌, ◌^◌, ◌+◌, ◌-◌, ◌%◌, Bool, true, false, cond, nat_lt, ◌||◌, List, [], ◌∷◌, ◌++◌, Option}
use Rattle.std.specs.Prelude.{Some, None}
use Rattle.tx_events.specs.declared.Trap.TheVariants.{BadAddress, TooManyThreads, BadJoin}
use Rattle.tx_events.specs.declared.End.{End}
use Rattle.tx_events.specs.declared.End.TheVariants.{Trapped}
use Rattle.tx_events.specs.declared.Event.{Event}
use Rattle.tx_events.specs.declared.Event.TheVariants.{Silent, Load, Store, Out, Inp, Spawn, Join, BeginAtomic, EndAtomic, Raise, BeginSync, EndSync, Done}
use Rattle.tx_events.specs.declared.Event.TheVariants.{Stop}
use Rattle.tx_events.specs.declared.Reply.TheVariants.{Nothing, Loaded, Byte, Id}
use Rattle.tx_events.specs.Thread.{Thread}
use Rattle.tx_events.specs.Memory.{update, MemoryLayout, can_access, load, store}
use Rattle.tx_events.specs.Alone.{BlockStep, Goes, Leaves, Halts, Never, Alone, outcome}

-- the lock of all synchronized blocks: the thread that holds it, and how many of its synchronized blocks are open
pub record Lock : Type 0 where
  pub holder : Option ℕ
  pub depth : ℕ

abbrev pub holder_free : ℕ → Option ℕ → Bool
holder_free t None = true
holder_free t (Some u) = u == t

-- no thread but t holds the lock
abbrev pub lock_free : ℕ → Lock → Bool
lock_free t lock = holder_free t lock.holder

-- thread t holds the lock once more
abbrev pub lock_in : ℕ → Lock → Lock
lock_in t lock = record { holder = Some t; depth = lock.depth + 1 }

-- its holder holds it once less, and at 0 no one does
abbrev pub lock_out : Lock → Lock
lock_out lock = record { holder = cond (nat_lt 1 lock.depth) lock.holder None; depth = lock.depth - 1 }

-- a thread that was started: its state, and whether it has ended
pub record Alive (S : Type 0) : Type 0 where
  pub state : S
  pub ended : Bool

-- memory by words, the threads that were started by their numbers, how many these are, the lock, the output so far, the input left, and the end or none
pub record World (S : Type 0) : Type 0 where
  pub memory : ℕ → ℕ
  pub threads : ℕ → Option (Alive S)
  pub started : ℕ
  pub lock : Lock
  pub out : List ℕ
  pub input : List ℕ
  pub end : Option End

-- some silent steps lead from s to r
pub data SilentSteps {S : Type 0} (a : Thread S) (s : S) : S → Type 0 where
  none : SilentSteps a s s
  one_more : {r : S} → SilentSteps a s r → a.next r ≡ Silent → SilentSteps a s (a.after r Nothing)

abbrev pub alive : {S : Type 0} → S → Option (Alive S)
alive s = Some (record { state = s; ended = false })

-- the thread of that number, where thread t may join it: not thread 0, and not t itself
abbrev pub target : {X : Type 0} → ℕ → ℤ → (ℕ → Option X) → Option X
target t (pos n) threads = cond ((n == 0) || (n == t)) None (threads n)
target t (negsuc n) threads = None

-- thread t goes on in this state
abbrev pub goes : {S : Type 0} → ℕ → World S → S → World S
goes t w s = record w { threads = update w.threads t (alive s) }

-- the program ends so
abbrev pub ends : {S : Type 0} → World S → End → World S
ends w end = record w { end = Some end }

-- the world after a whole block of thread t
abbrev pub BlockEffect : {S : Type 0} → ℕ → World S → BlockStep S → World S → Type 0
BlockEffect t w (Goes i) v = ⊥
BlockEffect t w Never v = ⊥
BlockEffect t w (Leaves s memory) v = v ≡ record w { memory = memory; threads = update w.threads t (alive s) }
BlockEffect t w (Halts end) v = v ≡ ends w end

-- a join of that thread: it has ended, or there is none that may be joined
abbrev pub Joins : {S : Type 0} → ℕ → World S → S → Option (Alive S) → World S → Type 0
Joins t w s None v = v ≡ ends w (Trapped BadJoin)
Joins t w s (Some u) v = (u.ended ≡ true) × (v ≡ goes t w s)

-- the next byte of input as 0 to 255, or -1 at its end
abbrev pub byte_of : List ℕ → ℤ
byte_of [] = negsuc 0
byte_of (b ∷ bs) = pos (b % 2 ^ 8)

abbrev pub input_after : List ℕ → List ℕ
input_after [] = []
input_after (b ∷ bs) = bs

-- what the event of thread t, in the state s, does to the world w; where it is not enabled, no v is there
abbrev pub EventStep : {S : Type 0} → Thread S → MemoryLayout → ℕ → World S → S → Event → World S → Type 0
EventStep a p t w s Silent v = ⊥
EventStep a p t w s EndAtomic v = ⊥
EventStep a p t w s (Raise kind cancels) v = ⊥
EventStep a p t w s (Load addr size volatile) v = v ≡ cond (can_access p addr size)
    (goes t w (a.after s (Loaded (load w.memory addr size))))
    (ends w (Trapped BadAddress))
EventStep a p t w s (Store addr size value volatile) v = v ≡ cond (can_access p addr size)
    (record w { memory = store w.memory addr size value; threads = update w.threads t (alive (a.after s Nothing)) })
    (ends w (Trapped BadAddress))
EventStep a p t w s (Out byte) v = v ≡ record w { out = w.out ++ byte ∷ []; threads = update w.threads t (alive (a.after s Nothing)) }
EventStep a p t w s Inp v = v ≡ record w { input = input_after w.input; threads = update w.threads t (alive (a.after s (Byte (byte_of w.input)))) }
EventStep a p t w s (Spawn func arg) v = v ≡ cond (nat_lt w.started p.limit)
    (record w {
      started = w.started + 1;
      threads = update (update w.threads w.started (alive (a.child s w.started func arg))) t
          (alive (a.after s (Id (pos w.started))));
    })
    (ends w (Trapped TooManyThreads))
EventStep a p t w s (Join id) v = Joins t w (a.after s Nothing) (target t id w.threads) v
EventStep a p t w s BeginSync v = (lock_free t w.lock ≡ true)
    × (v ≡ record w { lock = lock_in t w.lock; threads = update w.threads t (alive (a.after s Nothing)) })
EventStep a p t w s EndSync v = v ≡ record w { lock = lock_out w.lock; threads = update w.threads t (alive (a.after s Nothing)) }
EventStep a p t w s Done v = v ≡ record w { threads = update w.threads t (Some (record { state = a.after s Nothing; ended = true })) }
EventStep a p t w s (Stop end) v = v ≡ ends w end
EventStep {S} a p t w s (BeginAtomic kind) v = (lock_free t w.lock ≡ true) × (alone : Alone a p (a.after s Nothing) w.memory)
    × BlockEffect t w (outcome alone) v

-- a step of thread t, which was started and has not ended: some silent steps, and one event or one whole block
pub record Step {S : Type 0} (a : Thread S) (p : MemoryLayout) (t : ℕ) (w v : World S) : Type 0 where
  pub going : w.end ≡ None
  pub from : S
  pub before : S
  pub is : w.threads t ≡ alive from
  pub silents : SilentSteps a from before
  pub does : EventStep a p t w before (a.next before) v

-- Replay: the steps of these threads, in this order, lead from w to v
abbrev pub Replays : {S : Type 0} → Thread S → MemoryLayout → World S → List ℕ → World S → Type 0
Replays a p w [] v = v ≡ w
Replays {S} a p w (t ∷ ts) v = (mid : World S) × Step a p t w mid × Replays a p mid ts v

abbrev pub only_first : {S : Type 0} → S → ℕ → Option (Alive S)
only_first s zero = alive s
only_first s (suc n) = None

-- the world at the start, where thread 0 alone was started, in this state
abbrev pub first_world : {S : Type 0} → (ℕ → ℕ) → List ℕ → S → World S
first_world memory input main = record {
  memory = memory;
  threads = only_first main;
  started = 1;
  lock = record { holder = None; depth = 0 };
  out = [];
  input =
      input;
  end = None;
}
