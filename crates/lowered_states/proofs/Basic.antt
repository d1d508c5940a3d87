-- The parts of which the writing of items is made, as steps.
use Rattle.std.proofs.Common.{◌≡◌, refl, ap, Bool, true, false, cond, ℕ, zero, suc, ◌<◌, ◌≤◌, nat_eq, List, [], ◌∷◌, ◌++◌, length, Option, Some, None, arith}
use Rattle.std.proofs.lemmas.List.{length_push}
use Rattle.cpp_tree.specs.cpp_types.declared.classes.At.{At}
use Rattle.tx_code.specs.declared.instr.Instr.{Instr}
use Rattle.tx_code.specs.declared.instr.Instr.TheVariants.{Push, Dup, Jump as JumpTo, JumpZero}
use Rattle.low_code.specs.declared.scopes.ScopeKind.{ScopeKind}
use Rattle.low_code.specs.declared.writer.Jump.{Jump}
use Rattle.low_code.specs.declared.writer.Sort.{Sort}
use Rattle.low_code.specs.declared.writer.Sort.TheVariants.{Past as PastIt, Again}
use Rattle.low_code.specs.Effects.{takes_of, leaves_of}
use Rattle.low_code.specs.Numbers.{address_sum, address_difference}
use Rattle.low_code.specs.Scopes.{is_full, block_of}
use Rattle.low_code.specs.Writer.{Body, outer_by}
use Rattle.low_code.specs.Writer as low
use Rattle.unwind_lower.specs.declared.items.Item.{Item}
use Rattle.unwind_lower.specs.States.{State}
use Rattle.unwind_lower.specs.States as states
use Rattle.unwind_lower.specs.Conditions as conditions
use Rattle.lowered_states.specs.Claims.{Claim, coming, with_jump, with_claims, claims_in}
use Rattle.lowered_states.specs.Sound.{scope_from, Knows}
use Rattle.lowered_states.proofs.Knowing.{parent_below, led_at}
use Rattle.lowered_states.proofs.Moves.{Start, Moves, Fewer, with_body, wrote, added, linked, moved, caught, named as put_name, padded, deepened, lit, more as put_item, opened, bound as led_here, parked, all_bound, copied, behind, fewer}
use Rattle.lowered_states.proofs.Whole.{sound_in, asleep_in}

longer : {A : Type 0} (xs : List A) (x : A) → length xs < length (xs ++ x ∷ [])
longer xs x = omega (arith, length_push xs x)

none_by : {A : Type 0} (b : Bool) (x : A) → b ≡ false → cond b (Some x) None ≡ None
none_by b x e = ap (λ v. cond v (Some x) None) e

pub two_fewer : (a b : Claim) (cs : List Claim) → Fewer cs (a ∷ b ∷ cs)
two_fewer a b cs w = omega arith

temporary_longer : (most number : ℕ) (kind : ScopeKind) (at : At) (b : Body)
    → length b.scopes ≤ length (low.temporary_in most number kind at b).scopes
temporary_longer zero number kind at b = omega arith
temporary_longer (suc most) number kind at b = by (is_full (low.scope_in b number).kind)
    (temporary_longer most (low.scope_in b number).parent kind at b)
  where
    by : (v : Bool) → length b.scopes ≤ length (low.temporary_in most (low.scope_in b number).parent kind at b).scopes
        → length b.scopes ≤ length (cond v (low.entered kind at (low.at_scope number b))
        (low.entered_again (low.scope_in b number) (low.temporary_in most (low.scope_in b number).parent kind at b))).scopes
    by true h = omega (arith, longer b.scopes (low.made kind number (low.innermost (low.at_scope number b)).depth at (low.at_scope number b)))
    by false h = omega (
      arith,
      h,
      longer (low.temporary_in most (low.scope_in b number).parent kind at b).scopes
          (low.made (low.scope_in b number).kind (low.temporary_in most (low.scope_in b number).parent kind at b).scope (low.scope_in b number).depth
          (low.scope_in b number).at (low.temporary_in most (low.scope_in b number).parent kind at b)),
    )

no_outer : (kind : ScopeKind) (n : ℕ) → outer_by kind 0 ≡ 0 → outer_by kind 0 ≤ n
no_outer kind n e = omega arith

module _ {z : Start} where
  pub either : (b : Bool) {cs : List Claim} {s t : State} → Moves z cs s → Moves z cs t → Moves z cs (cond b s t)
  either true m n = m
  either false m n = n

  either_body : (v : Bool) (b c : Body) (s : State) {cs : List Claim} → Moves z cs (with_body b s) → Moves z cs (with_body c s)
      → Moves z cs (with_body (cond v b c) s)
  either_body true b c s m n = m
  either_body false b c s m n = n

  -- ---- what is known of a state

  pub within : {cs : List Claim} {s : State} → Moves z cs s → s.body.scope < length s.body.scopes
  within m = (sound_in m).within

  pub parent_within : {cs : List Claim} {s : State} → Moves z cs s → (number : ℕ) → (scope_from s.body.scopes number).parent < length s.body.scopes
  parent_within {s = s} m number = parent_below s.body.scopes (omega (arith, within m)) (sound_in m).nested number

  pub outer_within : {cs : List Claim} {s : State} → Moves z cs s → (number : ℕ) → outer_by (scope_from s.body.scopes number).kind 0 < length s.body.scopes
  outer_within {s = s} m number = led_at s.body.scopes number (omega (arith, within m)) (sound_in m).led

  pub rests : {cs : List Claim} {s : State} → Moves z cs s → z.asleep → states.is_live s ≡ false
  unfolding states.is_live
  rests m a = (asleep_in m a).0

  pub no_jump : {cs : List Claim} {s : State} → Moves z cs s → z.asleep → states.jump_from s ≡ None
  unfolding states.jump_from
  no_jump {s = s} m a = none_by s.body.live _ (asleep_in m a).0

  pub no_zero_jump : {cs : List Claim} {s : State} → Moves z cs s → z.asleep → states.zero_jump_from s ≡ None
  unfolding states.zero_jump_from
  no_zero_jump {s = s} m a = none_by s.body.live _ (asleep_in m a).0

  -- ---- instructions

  pub put : (instr : Instr) (at : At) {cs : List Claim} {s : State} → Moves z cs s → Moves z cs (states.put instr at s)
  unfolding states.put
  put instr at m = wrote instr at (takes_of instr) (leaves_of instr) m

  pub put_call : (instr : Instr) (at : At) (takes leaves : ℕ) {cs : List Claim} {s : State} → Moves z cs s
      → Moves z cs (states.put_call instr at takes leaves s)
  unfolding states.put_call
  put_call instr at takes leaves m = wrote instr at takes leaves m

  pub put_sum : (at : At) {cs : List Claim} {s : State} → Moves z cs s → Moves z cs (states.put_sum at s)
  unfolding states.put_sum
  put_sum at m = wrote address_sum at (takes_of address_sum) (leaves_of address_sum) m

  pub put_difference : (at : At) {cs : List Claim} {s : State} → Moves z cs s → Moves z cs (states.put_difference at s)
  unfolding states.put_difference
  put_difference at m = wrote address_difference at (takes_of address_difference) (leaves_of address_difference) m

  pub put_offset : (offset : ℕ) (at : At) {cs : List Claim} {s : State} → Moves z cs s → Moves z cs (states.put_offset offset at s)
  unfolding states.put_offset
  put_offset offset at {s = s} m = either_body (nat_eq offset 0) s.body (low.put_sum at (low.put (Push offset) at s.body)) s m
      (wrote address_sum at (takes_of address_sum) (leaves_of address_sum) (wrote (Push offset) at (takes_of (Push offset)) (leaves_of (Push offset)) m))

  pub put_less : (number : ℕ) (at : At) {cs : List Claim} {s : State} → Moves z cs s → Moves z cs (states.put_less number at s)
  unfolding states.put_less
  put_less number at m = wrote address_difference at (takes_of address_difference) (leaves_of address_difference)
      (wrote (Push number) at (takes_of (Push number)) (leaves_of (Push number)) m)

  pub repeated : (top : ℕ) (at : At) {cs : List Claim} {s : State} → Moves z cs s → Moves z cs (states.repeated top at s)
  unfolding states.repeated
  repeated top at {s = s} m =
      let tested = wrote Dup at (takes_of Dup) (leaves_of Dup) m in
      led_here (low.opened (JumpZero 0) (low.put Dup at s.body)) (λ a. none_by (low.put Dup at s.body).live _ (asleep_in tested a).0)
      (wrote (JumpTo top) at (takes_of (JumpTo top)) (leaves_of (JumpTo top)) (opened (JumpZero 0) at refl tested))

  -- ---- jumps

  pub jumped : (at : At) {cs : List Claim} {s : State} → Moves z cs s → Moves z (with_jump (states.jump_from s) cs) (states.jumped at s)
  unfolding states.jumped states.jump_from
  jumped at m = opened (JumpTo 0) at refl m

  pub jumped_if_zero : (at : At) {cs : List Claim} {s : State} → Moves z cs s
      → Moves z (with_jump (states.zero_jump_from s) cs) (states.jumped_if_zero at s)
  unfolding states.jumped_if_zero states.zero_jump_from
  jumped_if_zero at m = opened (JumpZero 0) at refl m

  pub bound : (jump : Option Jump) → (z.asleep → jump ≡ None) → {cs : List Claim} {s : State} → Moves z (with_jump jump cs) s
      → Moves z cs (states.bound jump s)
  unfolding states.bound
  bound jump q m = led_here jump q m

  pub jumped_to : (scope : ℕ) (sort : Sort) (at : At) {cs : List Claim} {s : State} → scope < length s.body.scopes → Moves z cs s
      → Moves z cs (states.jumped_to scope sort at s)
  unfolding states.jumped_to
  jumped_to scope sort at {s = s} l m = parked scope sort (low.opened (JumpTo 0) s.body) l (opened (JumpTo 0) at refl m)

  pub bound_all : (scope : ℕ) (sort : Sort) → (z.asleep → ⊥) → {cs : List Claim} {s : State} → Moves z (coming scope sort ∷ cs) s
      → Moves z cs (states.bound_all scope sort s)
  unfolding states.bound_all
  bound_all scope sort q m = all_bound scope sort q m

  -- ---- scopes

  pub at_scope : (number : ℕ) {cs : List Claim} {s : State} → number < length s.body.scopes → Moves z cs s → Moves z cs (states.at_scope number s)
  unfolding states.at_scope
  at_scope number l m = moved number l m

  pub at_depth : (depth : ℕ) {cs : List Claim} {s : State} → Moves z cs s → Moves z cs (states.at_depth depth s)
  unfolding states.at_depth
  at_depth depth m = deepened depth m

  pub made_live : (live : Bool) → (z.asleep → live ≡ false) → {cs : List Claim} {s : State} → Moves z cs s → Moves z cs (states.made_live live s)
  unfolding states.made_live
  made_live live q m = lit live q m

  pub with_pad : (index : ℕ) {cs : List Claim} {s : State} → Moves z cs s → Moves z cs (states.with_pad index s)
  unfolding states.with_pad
  with_pad index m = padded index m

  -- the places of a scope that is entered come to hand
  enter_body : (kind : ScopeKind) (depth : ℕ) (at : At) {cs : List Claim} {s : State} → outer_by kind 0 ≤ length s.body.scopes → Moves z cs s
      → Moves z (coming (length s.body.scopes) PastIt ∷ coming (length s.body.scopes) Again ∷ cs) (with_body (low.entered_at kind depth at s.body) s)
  enter_body kind depth at {s = s} o m = moved (length s.body.scopes) (longer s.body.scopes (low.made kind s.body.scope depth at s.body))
      (added (low.made kind s.body.scope depth at s.body) (within m) o m)

  pub places_at : (kind : ScopeKind) (depth : ℕ) (at : At) → outer_by kind 0 ≡ 0 → {cs : List Claim} {s : State} → Moves z cs s
      → Moves z (coming (length s.body.scopes) PastIt ∷ coming (length s.body.scopes) Again ∷ cs) (states.entered_at kind depth at s)
  unfolding states.entered_at
  places_at kind depth at e {s = s} m = enter_body kind depth at (no_outer kind (length s.body.scopes) e) m

  pub entered_at : (kind : ScopeKind) (depth : ℕ) (at : At) → outer_by kind 0 ≡ 0 → {cs : List Claim} {s : State} → Moves z cs s
      → Moves z cs (states.entered_at kind depth at s)
  entered_at kind depth at e {cs} {s} m =
      fewer (two_fewer (coming (length s.body.scopes) PastIt) (coming (length s.body.scopes) Again) cs) (places_at kind depth at e m)

  pub places : (kind : ScopeKind) (at : At) → outer_by kind 0 ≡ 0 → {cs : List Claim} {s : State} → Moves z cs s
      → Moves z (coming (length s.body.scopes) PastIt ∷ coming (length s.body.scopes) Again ∷ cs) (states.entered kind at s)
  unfolding states.entered
  places kind at e {s = s} m = enter_body kind (low.innermost s.body).depth at (no_outer kind (length s.body.scopes) e) m

  pub entered : (kind : ScopeKind) (at : At) → outer_by kind 0 ≡ 0 → {cs : List Claim} {s : State} → Moves z cs s
      → Moves z cs (states.entered kind at s)
  entered kind at e {cs} {s} m =
      fewer (two_fewer (coming (length s.body.scopes) PastIt) (coming (length s.body.scopes) Again) cs) (places kind at e m)

  enter_only : (kind : ScopeKind) (depth : ℕ) (at : At) {cs : List Claim} {s : State} → outer_by kind 0 ≤ length s.body.scopes → Moves z cs s
      → Moves z cs (with_body (low.entered_at kind depth at s.body) s)
  enter_only kind depth at {cs} {s} o m =
      fewer (two_fewer (coming (length s.body.scopes) PastIt) (coming (length s.body.scopes) Again) cs) (enter_body kind depth at o m)

  behind_all : (most edge last : ℕ) (at : At) {cs : List Claim} {s : State} → Moves z cs s
      → Moves z cs (with_body (low.behind_from most edge last at s.body) s)
  behind_all zero edge last at m = m
  behind_all (suc most) edge last at {cs} {s} m =
      either_body (nat_eq edge 0) s.body (low.behind_from most (low.outer_edge edge s.body) (length s.body.scopes) at (low.behind_one edge last at s.body)) s m
      (behind_all most (low.outer_edge edge s.body) (length s.body.scopes) at
      (linked last (length s.body.scopes) (longer s.body.scopes (low.behind_scope (block_of (low.scope_in s.body edge).kind edge) edge at s.body))
      (fewer (two_fewer (coming (length s.body.scopes) PastIt) (coming (length s.body.scopes) Again) cs)
      (added (low.behind_scope (block_of (low.scope_in s.body edge).kind edge) edge at s.body)
      (parent_within m (block_of (low.scope_in s.body edge).kind edge)) (omega arith) m))))

  pub entered_handler : (at : At) {cs : List Claim} {s : State} → Moves z cs s → Moves z cs (states.entered_handler at s)
  unfolding states.entered_handler
  entered_handler at {cs} {s} m =
      let b = behind_all (length s.body.scopes) (low.innermost s.body).edge 0 at m in
      moved (length (low.behind at s.body).scopes)
      (longer (low.behind at s.body).scopes (low.handler_in (low.behind_edge s.body) at (low.behind at s.body)))
      (fewer (two_fewer (coming (length (low.behind at s.body).scopes) PastIt) (coming (length (low.behind at s.body).scopes) Again) cs)
      (added (low.handler_in (low.behind_edge s.body) at (low.behind at s.body)) (within b) (omega arith) b))

  pub at_parent : (number : ℕ) {cs : List Claim} {s : State} → Moves z cs s → Moves z cs (states.at_scope (states.scope_at number s).parent s)
  unfolding states.at_scope states.scope_at
  at_parent number {s = s} m = moved (scope_from s.body.scopes number).parent (parent_within m number) m

  pub left : {cs : List Claim} {s : State} → Moves z cs s → Moves z cs (states.left s)
  unfolding states.left
  left {s = s} m = moved (scope_from s.body.scopes s.body.scope).parent (parent_within m s.body.scope) m

  pub left_scope : (number : ℕ) {cs : List Claim} {s : State} → Moves z cs s → Moves z cs (states.left_scope number s)
  unfolding states.left_scope
  left_scope number {s = s} m = moved (scope_from s.body.scopes number).parent (parent_within m number) m

  temporary_in : (most number : ℕ) (kind : ScopeKind) (at : At) → outer_by kind 0 ≡ 0 → {cs : List Claim} {s : State} → number < length s.body.scopes
      → Moves z cs s → Moves z cs (with_body (low.temporary_in most number kind at s.body) s)
  temporary_in zero number kind at e l m = m
  temporary_in (suc most) number kind at e {cs} {s} l m =
      either_body (is_full (low.scope_in s.body number).kind) (low.entered kind at (low.at_scope number s.body))
      (low.entered_again (low.scope_in s.body number) (low.temporary_in most (low.scope_in s.body number).parent kind at s.body)) s
      (enter_only kind (low.innermost (low.at_scope number s.body)).depth at (no_outer kind (length s.body.scopes) e) (moved number l m))
      (enter_only (low.scope_in s.body number).kind (low.scope_in s.body number).depth (low.scope_in s.body number).at
      (omega (arith, outer_within m number, temporary_longer most (low.scope_in s.body number).parent kind at s.body))
      (temporary_in most (low.scope_in s.body number).parent kind at e (parent_within m number) m))

  pub with_temporary : (kind : ScopeKind) (at : At) → outer_by kind 0 ≡ 0 → {cs : List Claim} {s : State} → Moves z cs s
      → Moves z cs (states.with_temporary kind at s)
  unfolding states.with_temporary
  with_temporary kind at e {s = s} m = temporary_in (length s.body.scopes) s.body.scope kind at e (within m) m

  pub caught_all : (scope : ℕ) {cs : List Claim} {s : State} → Moves z cs s → Moves z cs (states.caught_all scope s)
  unfolding states.caught_all
  caught_all scope m = caught scope 2 0 m

  pub caught_one : (scope ty : ℕ) {cs : List Claim} {s : State} → Moves z cs s → Moves z cs (states.caught_one scope ty s)
  unfolding states.caught_one
  caught_one scope ty m = caught scope 1 ty m

  -- ---- names and items

  pub named : (name : List ℕ) {cs : List Claim} {s : State} → Moves z cs s → Moves z cs (states.named name s)
  unfolding states.named
  named name m = put_name name m

  pub more : (item : Item) {cs : List Claim} {s : State} → Knows (length s.body.scopes) item → Moves z (with_claims item cs) s
      → Moves z cs (states.later item s)
  unfolding states.later
  more item k m = put_item item k m

  pub repeat_rest : (item : Item) {cs : List Claim} {s : State} → claims_in (conditions.up_to_end s.work) ≡ [] → Knows (length s.body.scopes) item
      → Moves z (with_claims item cs) s → Moves z cs (conditions.repeat_rest item s)
  unfolding conditions.repeat_rest
  repeat_rest item e k m = copied item e k m

  pub bind_behind : (jump : Option Jump) {cs : List Claim} {s : State} → Moves z (with_jump jump cs) s → Moves z cs (conditions.bind_behind jump s)
  unfolding conditions.bind_behind
  bind_behind jump m = behind jump m
