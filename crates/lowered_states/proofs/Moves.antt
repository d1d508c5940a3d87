-- The steps of which the writing of an item is made, with the claims that are at hand between them.
use Rattle.std.specs.Prelude.{◌≡◌, Bool, true, false, ℕ, ◌<◌, ◌≤◌, List, [], ◌∷◌, ◌++◌, length, Option, None}
use Rattle.cpp_tree.specs.cpp_types.declared.classes.At.{At}
use Rattle.tx_code.specs.declared.instr.Instr.{Instr}
use Rattle.low_code.specs.declared.scopes.Scope.{Scope}
use Rattle.low_code.specs.declared.writer.Jump.{Jump}
use Rattle.low_code.specs.declared.writer.Sort.{Sort}
use Rattle.low_code.specs.declared.writer.Sort.TheVariants.{Past, Again}
use Rattle.low_code.specs.Names.{with_name}
use Rattle.low_code.specs.Writer.{Body, outer_by}
use Rattle.low_code.specs.Writer as low
use Rattle.unwind_lower.specs.declared.items.Item.{Item}
use Rattle.unwind_lower.specs.declared.items.Item.TheVariants.{Bind}
use Rattle.unwind_lower.specs.States.{State}
use Rattle.unwind_lower.specs.Conditions.{up_to_end, with_behind}
use Rattle.lowered_states.specs.Claims.{Claim, coming, with_jump, with_claims, claims_in, sum_of, is_open}
use Rattle.lowered_states.specs.Sound.{SoundWith, Knows}

abbrev pub with_body : Body → State → State
with_body b s = record s { body = b }

abbrev pub with_work : List Item → State → State
with_work items s = record s { work = items }

-- claims of which each is among others
abbrev pub Fewer : List Claim → List Claim → Type 0
Fewer cs ds = (w : Claim → ℕ) → sum_of w cs ≤ sum_of w ds

-- where an item's writing begins, and what follows where no instruction can be reached from there on
pub record Start : Type 1 where
  pub from : State
  pub claims : List Claim
  pub sound : SoundWith claims from
  pub asleep : Type 0
  pub rests : asleep → from.body.live ≡ false

pub data Moves (z : Start) : List Claim → State → Type 0 where
  same : Moves z z.claims z.from
  wrote : {cs : List Claim} {s : State} (instr : Instr) (at : At) (takes leaves : ℕ) → Moves z cs s
      → Moves z cs (with_body (low.written instr at takes leaves s.body) s)
  added : {cs : List Claim} {s : State} (scope : Scope) → scope.parent < length s.body.scopes → outer_by scope.kind 0 ≤ length s.body.scopes → Moves z cs s
      → Moves z (coming (length s.body.scopes) Past ∷ coming (length s.body.scopes) Again ∷ cs) (with_body (low.added scope s.body) s)
  linked : {cs : List Claim} {s : State} (inner outer : ℕ) → outer < length s.body.scopes → Moves z cs s
      → Moves z cs (with_body (low.linked inner outer s.body) s)
  moved : {cs : List Claim} {s : State} (number : ℕ) → number < length s.body.scopes → Moves z cs s
      → Moves z cs (with_body (low.at_scope number s.body) s)
  caught : {cs : List Claim} {s : State} (scope what ty : ℕ) → Moves z cs s → Moves z cs (with_body (low.caught_as scope what ty s.body) s)
  named : {cs : List Claim} {s : State} (name : List ℕ) → Moves z cs s → Moves z cs (record s { names = with_name name s.names })
  padded : {cs : List Claim} {s : State} (index : ℕ) → Moves z cs s
      → Moves z cs (with_body (record s.body { pads = s.body.pads ++ index ∷ [] }) s)
  deepened : {cs : List Claim} {s : State} (depth : ℕ) → Moves z cs s → Moves z cs (with_body (record s.body { depth = depth }) s)
  lit : {cs : List Claim} {s : State} (live : Bool) → (z.asleep → live ≡ false) → Moves z cs s
      → Moves z cs (with_body (record s.body { live = live }) s)
  more : {cs : List Claim} {s : State} (item : Item) → Knows (length s.body.scopes) item → Moves z (with_claims item cs) s
      → Moves z cs (with_work (item ∷ s.work) s)
  opened : {cs : List Claim} {s : State} (instr : Instr) (at : At) → is_open instr ≡ true → Moves z cs s
      → Moves z (with_jump (low.opened instr s.body) cs) (with_body (low.put instr at s.body) s)
  bound : {cs : List Claim} {s : State} (jump : Option Jump) → (z.asleep → jump ≡ None) → Moves z (with_jump jump cs) s
      → Moves z cs (with_body (low.bound jump s.body) s)
  parked : {cs : List Claim} {s : State} (scope : ℕ) (sort : Sort) (jump : Option Jump) → scope < length s.body.scopes → Moves z (with_jump jump cs) s
      → Moves z cs (with_body (record s.body { pending = low.noted scope sort jump s.body.pending }) s)
  all_bound : {cs : List Claim} {s : State} (scope : ℕ) (sort : Sort) → (z.asleep → ⊥) → Moves z (coming scope sort ∷ cs) s
      → Moves z cs (with_body (low.bound_all scope sort s.body) s)
  copied : {cs : List Claim} {s : State} (item : Item) → claims_in (up_to_end s.work) ≡ [] → Knows (length s.body.scopes) item
      → Moves z (with_claims item cs) s → Moves z cs (with_work (up_to_end s.work ++ item ∷ s.work) s)
  behind : {cs : List Claim} {s : State} (jump : Option Jump) → Moves z (with_jump jump cs) s
      → Moves z cs (with_work (with_behind (Bind jump) s.work) s)
  fewer : {cs ds : List Claim} {s : State} → Fewer cs ds → Moves z ds s → Moves z cs s
