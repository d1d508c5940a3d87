-- What is still to lead somewhere, or to be led to: the claims of what is to be written.
use Rattle.std.specs.Prelude.{Bool, false, ◌&&◌, ℕ, ◌+◌, nat_eq, nat_le, cond, List, [], ◌∷◌, Option, Some, None}
use Rattle.tx_code.specs.declared.instr.Instr.{Instr}
use Rattle.tx_code.specs.declared.instr.Instr.TheVariants.{Jump as JumpTo, JumpZero}
use Rattle.low_code.specs.declared.writer.Jump.{Jump}
use Rattle.low_code.specs.declared.writer.Sort.{Sort}
use Rattle.low_code.specs.declared.writer.Sort.TheVariants.{Past as PastIt, Again}
use Rattle.low_code.specs.declared.writer.Pending.{Pending}
use Rattle.low_code.specs.Writer.{same_sort, leads_to}
use Rattle.unwind_lower.specs.declared.items.Item.{Item}
use Rattle.unwind_lower.specs.declared.items.Item.TheVariants.{Bind, Other, OtherAgain, BodyDone, StepDone, TestDone, Past}
use Rattle.unwind_lower.specs.States.{State}

-- a jump whose target is not known yet, or a place of a scope that is still to come
pub data Claim : Type 0 where
  jump : Jump → Claim
  coming : ℕ → Sort → Claim

abbrev pub with_jump : Option Jump → List Claim → List Claim
with_jump None cs = cs
with_jump (Some j) cs = jump j ∷ cs

-- the claims of an item, before others
abbrev pub with_claims : Item → List Claim → List Claim
with_claims (Bind j) cs = with_jump j cs
with_claims (Other o) cs = with_jump o.test cs
with_claims (OtherAgain o) cs = with_jump o.test cs
with_claims (BodyDone turn) cs = coming turn.scope Again ∷ coming turn.scope PastIt ∷ with_jump turn.first cs
with_claims (StepDone turn) cs = coming turn.scope PastIt ∷ with_jump turn.first cs
with_claims (TestDone turn) cs = coming turn.scope PastIt ∷ cs
with_claims (Past scope) cs = coming scope PastIt ∷ cs
with_claims item cs = cs

abbrev pub claims_in : List Item → List Claim
claims_in [] = []
claims_in (item ∷ items) = with_claims item (claims_in items)

-- ---- counting

abbrev pub one_if : Bool → ℕ
one_if b = cond b 1 0

abbrev pub sum_of : (Claim → ℕ) → List Claim → ℕ
sum_of w [] = 0
sum_of w (c ∷ cs) = w c + sum_of w cs

-- what claims at hand and those of items come to
abbrev pub held : (Claim → ℕ) → List Claim → List Item → ℕ
held w cs items = sum_of w cs + sum_of w (claims_in items)

-- it is this place
abbrev pub is_place : ℕ → Sort → Claim → ℕ
is_place scope sort (jump j) = 0
is_place scope sort (coming number other) = one_if (nat_eq scope number && same_sort sort other)

-- how many of the jumps that wait for a place stand at an index
abbrev pub waiting : ℕ → ℕ → Sort → List Pending → ℕ
waiting index scope sort [] = 0
waiting index scope sort (p ∷ ps) = one_if (leads_to scope sort p && nat_eq p.jump.index index) + waiting index scope sort ps

-- how many jumps at an index a claim keeps open, where these jumps wait for places
abbrev pub opens : ℕ → List Pending → Claim → ℕ
opens index pending (jump j) = one_if (nat_eq j.index index)
opens index pending (coming scope sort) = waiting index scope sort pending

-- it is a jump that comes out in a scope which is not there
abbrev pub is_lost : ℕ → Claim → ℕ
is_lost count (jump j) = one_if (nat_le count j.scope)
is_lost count (coming scope sort) = 0

-- the jump at an index has no target yet: how often it is claimed by what is still to be written
abbrev pub open_in : ℕ → State → ℕ
open_in index s = held (opens index s.body.pending) [] s.work

-- it leads nowhere yet
abbrev pub is_open : Instr → Bool
is_open (JumpTo target) = nat_eq target 0
is_open (JumpZero target) = nat_eq target 0
is_open instr = false
