-- An atomic block alone with its memory, from just after its BeginAtomic to its end (the TS, [stmt.tx]).
use Rattle.std.specs.Prelude.{ℕ, ◌≡◌, Bool, true, false, cond, List, [], ◌∷◌}
use Rattle.tx_events.specs.declared.BlockKind.{BlockKind}
use Rattle.tx_events.specs.declared.BlockKind.TheVariants.{NoExcept, Commit, Cancel}
use Rattle.tx_events.specs.declared.Trap.TheVariants.{BadAddress}
use Rattle.tx_events.specs.declared.End.{End}
use Rattle.tx_events.specs.declared.End.TheVariants.{Abort, Trapped}
use Rattle.tx_events.specs.declared.Event.{Event}
use Rattle.tx_events.specs.declared.Event.TheVariants.{Silent, Load, Store, Out, Inp, Spawn, Join, BeginAtomic, EndAtomic, Raise, BeginSync, EndSync, Done}
use Rattle.tx_events.specs.declared.Event.TheVariants.{Stop}
use Rattle.tx_events.specs.declared.Reply.TheVariants.{Nothing, Loaded}
use Rattle.tx_events.specs.Thread.{Thread}
use Rattle.tx_events.specs.Memory.{update, MemoryLayout, can_access, word_of, load, store}

-- a thread alone in its block: its state, the memory, the words that it accessed and stored to so far, and the copies of the whole memory, one for each open
-- atomic block, the newest first
pub record Inner (S : Type 0) : Type 0 where
  pub state : S
  pub memory : ℕ → ℕ
  pub accessed : ℕ → Bool
  pub stored : ℕ → Bool
  pub copies : List (ℕ → ℕ)

-- what a step inside a block comes to: the block goes on, or it is left in this state and with this memory, or the program ends; events that never come inside
-- an atomic block have no step
pub data BlockStep (S : Type 0) : Type 0 where
  Goes : Inner S → BlockStep S
  Leaves : S → (ℕ → ℕ) → BlockStep S
  Halts : End → BlockStep S
  Never : BlockStep S

-- the newest copy
abbrev pub newest : List (ℕ → ℕ) → (ℕ → ℕ) → ℕ → ℕ
newest [] memory = memory
newest (c ∷ cs) memory = c

-- the newest copy is dropped, with this memory after it; where it was the last, the outermost block is left
abbrev pub leave : {S : Type 0} → Thread S → Inner S → (ℕ → ℕ) → List (ℕ → ℕ) → BlockStep S
leave a i memory [] = Never
leave a i memory (c ∷ []) = Leaves (a.after i.state Nothing) memory
leave a i memory (c ∷ d ∷ cs) = Goes (record i { state = a.after i.state Nothing; memory = memory; copies = d ∷ cs })

-- an exception leaves the block: atomic_commit commits, atomic_cancel puts the newest copy back where the type supports cancellation, and all else aborts
abbrev pub raise : {S : Type 0} → Thread S → Inner S → BlockKind → Bool → BlockStep S
raise a i NoExcept cancels = Halts Abort
raise a i Commit cancels = leave a i i.memory i.copies
raise a i Cancel true = leave a i (newest i.copies i.memory) i.copies
raise a i Cancel false = Halts Abort

abbrev pub inner_load : {S : Type 0} → Thread S → Inner S → ℕ → ℕ → Inner S
inner_load a i addr size = record i { state = a.after i.state (Loaded (load i.memory addr size)); accessed = update i.accessed (word_of addr) true }

abbrev pub inner_store : {S : Type 0} → Thread S → Inner S → ℕ → ℕ → ℕ → Inner S
inner_store a i addr size value = record i {
  state = a.after i.state Nothing;
  memory = store i.memory addr size value;
  accessed = update i.accessed
      (word_of addr) true;
  stored = update i.stored (word_of addr) true;
}

-- one step inside a block
abbrev pub inner_by : {S : Type 0} → Thread S → MemoryLayout → Inner S → Event → BlockStep S
inner_by a p i Silent = Goes (record i { state = a.after i.state Nothing })
inner_by a p i (Load addr size volatile) = cond (can_access p addr size) (Goes (inner_load a i addr size)) (Halts (Trapped BadAddress))
inner_by a p i (Store addr size value volatile) = cond (can_access p addr size) (Goes (inner_store a i addr size value)) (Halts (Trapped BadAddress))
inner_by a p i (BeginAtomic kind) = Goes (record i { state = a.after i.state Nothing; copies = i.memory ∷ i.copies })
inner_by a p i EndAtomic = leave a i i.memory i.copies
inner_by a p i (Raise kind cancels) = raise a i kind cancels
inner_by a p i BeginSync = Goes (record i { state = a.after i.state Nothing })
inner_by a p i EndSync = Goes (record i { state = a.after i.state Nothing })
inner_by a p i (Stop end) = Halts end
inner_by a p i (Out byte) = Never
inner_by a p i Inp = Never
inner_by a p i (Spawn func arg) = Never
inner_by a p i (Join id) = Never
inner_by a p i Done = Never

-- some steps inside a block lead from i to j
pub data Inside {S : Type 0} (a : Thread S) (p : MemoryLayout) (i : Inner S) : Inner S → Type 0 where
  at_start : Inside a p i i
  goes_on : {j k : Inner S} → Inside a p i j → inner_by a p j (a.next j.state) ≡ Goes k → Inside a p i k

-- just after the outermost BeginAtomic
abbrev pub begin : {S : Type 0} → S → (ℕ → ℕ) → Inner S
begin s memory = record { state = s; memory = memory; accessed = λ _. false; stored = λ _. false; copies = memory ∷ [] }

-- the outermost block is left, or the program ends
abbrev pub is_over : {S : Type 0} → BlockStep S → Bool
is_over (Goes i) = false
is_over (Leaves s memory) = true
is_over (Halts end) = true
is_over Never = false

-- Alone: a run of the block from this state and memory, up to the step that ends it
pub record Alone {S : Type 0} (a : Thread S) (p : MemoryLayout) (s : S) (memory : ℕ → ℕ) : Type 0 where
  pub last : Inner S
  pub run : Inside a p (begin s memory) last
  pub over : is_over (inner_by a p last (a.next last.state)) ≡ true

-- what the run comes to
abbrev pub outcome : {S : Type 0} {a : Thread S} {p : MemoryLayout} {s : S} {memory : ℕ → ℕ} → Alone a p s memory → BlockStep S
outcome {a} {p} alone = inner_by a p alone.last (a.next alone.last.state)
