-- A step of a thread in its outermost block: what it does to memory and to the copies, by `inner_by` of `tx_events`.
use Rattle.std.specs.Prelude.{◌≡◌, ℕ, Bool, true, false, nat_lt, ◌^◌, ◌*◌, ◌&&◌, List, []}
use Rattle.tx_events.specs.declared.Event.{Event}
use Rattle.tx_events.specs.declared.Event.TheVariants.{Silent, Load, Store, Out, Inp, Spawn, Join, BeginAtomic, EndAtomic, Raise, BeginSync, EndSync, Done}
use Rattle.tx_events.specs.declared.Event.TheVariants.{Stop}
use Rattle.tx_events.specs.declared.Reply.{Reply}
use Rattle.tx_events.specs.declared.Reply.TheVariants.{Nothing, Loaded}
use Rattle.tx_events.specs.Memory.{MemoryLayout, load}
use Rattle.tx_events.specs.Thread.{Thread, is_size}
use Rattle.tx_events.specs.Alone.{Inner, BlockStep, inner_by}
use Rattle.tx_events.specs.Alone as alone
use Rattle.src_replay.specs.declared.block.Step.{Step}
use Rattle.src_replay.specs.declared.block.Step.TheVariants.{Goes, Leaves, Halts, Never}

-- a thread of which nothing is told
abbrev pub untold : Thread (Unit {0})
untold = record { next = λ s. Silent; after = λ s reply. s; child = λ s number func arg. s; blocks = λ s. [] }

-- memory and its copies, in a block
abbrev pub inner_of : (ℕ → ℕ) → List (ℕ → ℕ) → Inner (Unit {0})
inner_of memory cs = record { state = tt; memory = memory; accessed = λ x. false; stored = λ x. false; copies = cs }

-- what an event of a thread in a block comes to
abbrev pub comes_to : MemoryLayout → (ℕ → ℕ) → List (ℕ → ℕ) → Event → BlockStep (Unit {0})
comes_to p memory cs e = inner_by untold p (inner_of memory cs) e

-- an access has a size, and a value that fits it
abbrev pub has_size : Event → Bool
has_size (Load addr size volatile) = is_size size
has_size (Store addr size value volatile) = is_size size && nat_lt value (2 ^ (8 * size))
has_size e = true

-- that is what came
abbrev pub Came : (ℕ → ℕ) → List (ℕ → ℕ) → Step → BlockStep (Unit {0}) → Type 0
Came memory cs Goes (alone.Goes i) = (memory ≡ i.memory) × (cs ≡ i.copies)
Came memory cs Leaves (alone.Leaves s m) = (memory ≡ m) × (cs ≡ [])
Came memory cs (Halts end) (alone.Halts other) = end ≡ other
Came memory cs Never alone.Never = Unit {0}
Came memory cs step other = ⊥

-- the reply to an event: what a load reads, else nothing
abbrev pub reply_in : (ℕ → ℕ) → Step → Event → Reply
reply_in memory Goes (Load addr size volatile) = Loaded (load memory addr size)
reply_in memory step e = Nothing

-- the thread goes on behind such a step
abbrev pub is_going_step : Step → Bool
is_going_step Goes = true
is_going_step Leaves = true
is_going_step (Halts end) = false
is_going_step Never = false

-- the event may come inside an atomic block
abbrev pub is_inner : Event → Bool
is_inner (Out byte) = false
is_inner Inp = false
is_inner (Spawn func arg) = false
is_inner (Join id) = false
is_inner Done = false
is_inner Silent = true
is_inner (Load addr size volatile) = true
is_inner (Store addr size value volatile) = true
is_inner (BeginAtomic kind) = true
is_inner EndAtomic = true
is_inner (Raise kind cancels) = true
is_inner BeginSync = true
is_inner EndSync = true
is_inner (Stop end) = true
