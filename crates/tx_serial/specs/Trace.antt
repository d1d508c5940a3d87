-- The trace of an order: what a replay of it in the indivisible world reads, writes, enters, leaves, starts and joins.
use Rattle.std.specs.Prelude.{ℕ, ℤ, ◌≡◌, Bool, true, false, nat_lt, List, [], ◌∷◌, ◌++◌, Option, Some, None}
use Rattle.tx_events.specs.declared.Event.{Event}
use Rattle.tx_events.specs.declared.Event.TheVariants.{
  Silent,
  Load,
  Store,
  Out,
  Inp,
  Spawn,
  Join,
  BeginAtomic,
  EndAtomic,
  Raise,
  BeginSync,
  EndSync,
  Done,
  Stop,
}
use Rattle.tx_events.specs.declared.Item.{Item}
use Rattle.tx_events.specs.declared.What.{What}
use Rattle.tx_events.specs.declared.What.TheVariants.{Read, Write, Enter, Leave, Spawned, Joined}
use Rattle.tx_events.specs.Thread.{Thread, is_empty, rest_of}
use Rattle.tx_events.specs.Memory.{MemoryLayout, can_access}
use Rattle.tx_events.specs.Alone.{Inner, Inside, at_start, goes_on, BlockStep, Goes, Leaves, Halts, Never, outcome}
use Rattle.tx_events.specs.World.{World, Step, Replays, EventStep, target}
use Rattle.tx_serial.specs.Turn.{number_of}

-- this item of thread t, where the condition holds
abbrev pub item_if : Bool → ℕ → What → List Item
item_if true t what = record { t = t; what = what } ∷ []
item_if false t what = []

-- a mapped and aligned access
abbrev pub access_items : MemoryLayout → ℕ → Event → List Item
access_items p t (Load addr size vol) = item_if (can_access p addr size) t (Read addr size)
access_items p t (Store addr size value vol) = item_if (can_access p addr size) t (Write addr size)
access_items p t Silent = []
access_items p t (Out byte) = []
access_items p t Inp = []
access_items p t (Spawn f x) = []
access_items p t (Join id) = []
access_items p t (BeginAtomic kind) = []
access_items p t EndAtomic = []
access_items p t (Raise kind cancels) = []
access_items p t BeginSync = []
access_items p t EndSync = []
access_items p t Done = []
access_items p t (Stop end) = []

-- the accesses of a run inside a block, those of blocks that it cancels included
abbrev pub inside_items : {S : Type 0} {a : Thread S} {p : MemoryLayout} {i j : Inner S} → ℕ → Inside a p i j → List Item
inside_items t at_start = []
inside_items {S} {a} {p} t (goes_on {j} run step) = inside_items t run ++ access_items p t (a.next j.state)

-- an outer block is left, unless the program ended in it
abbrev pub leave_items : {S : Type 0} → Bool → ℕ → BlockStep S → List Item
leave_items outer t (Leaves s memory) = item_if outer t Leave
leave_items outer t (Halts end) = []
leave_items outer t (Goes i) = []
leave_items outer t Never = []

-- a join that is done
abbrev pub join_items : {X : Type 0} → ℕ → ℤ → Option X → List Item
join_items t id None = []
join_items t id (Some u) = record { t = t; what = Joined (number_of id) } ∷ []

-- The items of a step of thread t, in the state s: of its event, or of its whole atomic block. A block is outer where no
-- other block of the thread is open around it.
abbrev pub step_items : {S : Type 0} (a : Thread S) (p : MemoryLayout) (t : ℕ) (w : World S) (s : S) (e : Event) (v : World S) → EventStep a p t w s e v
    → List Item
step_items a p t w s (BeginAtomic kind) v d =
    item_if (is_empty (a.blocks s)) t Enter ++ (inside_items t d.1.run ++ leave_items (is_empty (a.blocks s)) t (outcome d.1))
step_items a p t w s (Load addr size vol) v d = access_items p t (Load addr size vol)
step_items a p t w s (Store addr size value vol) v d = access_items p t (Store addr size value vol)
step_items a p t w s (Spawn f x) v d = item_if (nat_lt w.started p.limit) t (Spawned w.started)
step_items a p t w s (Join id) v d = join_items t id (target t id w.threads)
step_items a p t w s BeginSync v d = item_if (is_empty (a.blocks s)) t Enter
step_items a p t w s EndSync v d = item_if (is_empty (rest_of (a.blocks s))) t Leave
step_items a p t w s Silent v d = []
step_items a p t w s EndAtomic v d = []
step_items a p t w s (Raise kind cancels) v d = []
step_items a p t w s (Out byte) v d = []
step_items a p t w s Inp v d = []
step_items a p t w s Done v d = []
step_items a p t w s (Stop end) v d = []

-- the items of its steps, in their order
abbrev pub items_of : {S : Type 0} (a : Thread S) (p : MemoryLayout) (w : World S) (order : List ℕ) (v : World S) → Replays a p w order v → List Item
items_of a p w [] v h = []
items_of a p w (t ∷ order) v h = step_items a p t w h.1.before (a.next h.1.before) h.0 h.1.does ++ items_of a p h.0 order v h.2

-- TraceOf: the order replays from the start, and these are the items of its replay.
pub record TraceOf {S : Type 0} (a : Thread S) (p : MemoryLayout) (start : World S) (order : List ℕ) (items : List Item) : Type 0 where
  pub world : World S
  pub replays : Replays a p start order world
  pub is : items ≡ items_of a p start order world replays

-- The one list has the items of one more step, of thread t, than the other. That step leads from the world to which the
-- order replays to the one to which the order with t behind it replays.
pub record OneStepMore {S : Type 0} (a : Thread S) (p : MemoryLayout) (start : World S) (order : List ℕ) (t : ℕ) (items more : List Item) : Type 0 where
  pub before : World S
  pub after : World S
  pub replayed : Replays a p start order before
  pub step : Step a p t before after
  pub replays : Replays a p start (order ++ t ∷ []) after
  pub is : more ≡ (items ++ step_items a p t before step.before (a.next step.before) after step.does)
