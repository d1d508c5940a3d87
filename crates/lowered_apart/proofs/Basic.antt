-- The parts of which the writing of items is made.
use Rattle.std.proofs.Common.{◌≡◌, refl, Bool, true, false, cond, ℕ, zero, suc, nat_eq, List, [], ◌∷◌, length, slice_set, fold, Option, Some, None}
use Rattle.cpp_tree.specs.cpp_types.declared.classes.At.{At}
use Rattle.cpp_tree.specs.declared.arena.TNodeId.{TNodeId}
use Rattle.tx_code.specs.declared.instr.Instr.{Instr}
use Rattle.tx_code.specs.declared.instr.Instr.TheVariants.{Push, Dup, Jump as JumpTo, JumpZero}
use Rattle.low_code.specs.declared.scopes.Owner.TheVariants.{Full}
use Rattle.low_code.specs.declared.scopes.ScopeKind.{ScopeKind}
use Rattle.low_code.specs.declared.writer.Jump.{Jump}
use Rattle.low_code.specs.declared.writer.Sort.{Sort}
use Rattle.low_code.specs.declared.writer.Pending.{Pending}
use Rattle.low_code.specs.Scopes.{is_full, block_of}
use Rattle.low_code.specs.Writer.{Body, leads_to}
use Rattle.low_code.specs.Writer as low
use Rattle.unwind_lower.specs.declared.items.Item.{Item}
use Rattle.unwind_lower.specs.declared.items.Item.TheVariants.{Run, Bind, OtherAgain, Close}
use Rattle.unwind_lower.specs.declared.items.Other.{Other as OtherPart}
use Rattle.unwind_lower.specs.declared.items.Way.{Way}
use Rattle.unwind_lower.specs.States.{State}
use Rattle.unwind_lower.specs.States as states
use Rattle.unwind_lower.specs.Conditions.{is_end}
use Rattle.unwind_lower.specs.Conditions as conditions
use Rattle.lowered_states.specs.Sound.{scope_from}
use Rattle.lowered_apart.specs.Still.{Nodes}
use Rattle.lowered_apart.specs.Waiting.{claims, is_free, MayRun, MayStand, IsLeft, AreLeft, Waiting}
use Rattle.lowered_apart.proofs.Lists.{free_again, free_before, free_with, left_at, left_led, left_push, left_set, no_more, stand_again, stand_with}

-- ---- scopes of bodies

left_by : (z : Nodes) → (v : Bool) (b c : Body) → AreLeft z b.scopes → AreLeft z c.scopes → AreLeft z (cond v b c).scopes
left_by z true b c h k = h
left_by z false b c h k = k

left_offset : (z : Nodes) → (offset : ℕ) (at : At) (b : Body) → AreLeft z b.scopes → AreLeft z (low.put_offset offset at b).scopes
left_offset z offset at b h = left_by z (nat_eq offset 0) b (low.put_sum at (low.put (Push offset) at b)) h h

left_bound : (z : Nodes) → (jump : Option Jump) (b : Body) → AreLeft z b.scopes → AreLeft z (low.bound jump b).scopes
left_bound z None b h = h
left_bound z (Some jump) b h = h

left_bound_all : (z : Nodes) → (scope : ℕ) (sort : Sort) (pending : List Pending) (b : Body) → AreLeft z b.scopes
    → AreLeft z (fold (low.bound_there scope sort) b pending).scopes
left_bound_all z scope sort [] b h = h
left_bound_all z scope sort (p ∷ ps) b h = left_bound_all z scope sort ps (low.bound_there scope sort b p)
    (left_by z (leads_to scope sort p) (low.bound (Some p.jump) b) b (left_bound z (Some p.jump) b h) h)

left_linked : (z : Nodes) → (inner outer : ℕ) (b : Body) → AreLeft z b.scopes → AreLeft z (low.linked inner outer b).scopes
left_linked z inner outer b h = left_by z (nat_eq inner 0) b
    (record b { scopes = slice_set b.scopes inner (low.led outer (low.scope_in b inner)) }) h
    (left_set z b.scopes inner (low.led outer (low.scope_in b inner)) h
    (left_led z outer (scope_from b.scopes inner).kind (left_at z b.scopes inner h)))

left_behind : (z : Nodes) → (most edge last : ℕ) (at : At) (b : Body) → AreLeft z b.scopes → AreLeft z (low.behind_from most edge last at b).scopes
left_behind z zero edge last at b h = h
left_behind z (suc most) edge last at b h = left_by z (nat_eq edge 0) b
    (low.behind_from most (low.outer_edge edge b) (length b.scopes) at (low.behind_one edge last at b)) h
    (left_behind z most (low.outer_edge edge b) (length b.scopes) at (low.behind_one edge last at b)
    (left_linked z last (length b.scopes) (low.added (low.behind_scope (block_of (low.scope_in b edge).kind edge) edge at b) b)
    (left_push z b.scopes (low.behind_scope (block_of (low.scope_in b edge).kind edge) edge at b) h tt)))

left_temporary : (z : Nodes) → (most number : ℕ) (kind : ScopeKind) (at : At) (b : Body) → IsLeft z kind → AreLeft z b.scopes
    → AreLeft z (low.temporary_in most number kind at b).scopes
left_temporary z zero number kind at b k h = h
left_temporary z (suc most) number kind at b k h =
    let inner = low.temporary_in most (low.scope_in b number).parent kind at b in
    left_by z (is_full (low.scope_in b number).kind) (low.entered kind at (low.at_scope number b)) (low.entered_again (low.scope_in b number) inner)
    (left_push z b.scopes (low.made kind number (low.innermost (low.at_scope number b)).depth at (low.at_scope number b)) h k)
    (left_push z inner.scopes (low.made (low.scope_in b number).kind inner.scope (low.scope_in b number).depth (low.scope_in b number).at inner)
    (left_temporary z most (low.scope_in b number).parent kind at b k h) (left_at z b.scopes number h))

module _ {z : Nodes} where
  -- ---- states

  pub either : (v : Bool) {free : Bool} {s t : State} → Waiting z free s → Waiting z free t → Waiting z free (cond v s t)
  either true m n = m
  either false m n = n

  -- the state is not told to be free any more
  pub calm : {free : Bool} {s : State} → Waiting z free s → Waiting z false s
  calm m = record { scopes = m.scopes; work = m.work; freed = λ e. no_more e }

  -- it is free
  pub surely : {free : Bool} {s : State} → free ≡ true → Waiting z free s → Waiting z true s
  surely f m = record { scopes = m.scopes; work = m.work; freed = λ e. m.freed f }

  pub scope_left : {free : Bool} {s : State} → Waiting z free s → (number : ℕ) → IsLeft z (states.scope_at number s).kind
  unfolding states.scope_at
  scope_left {s} m number = left_at z s.body.scopes number m.scopes

  -- ---- instructions

  pub put : (instr : Instr) (at : At) {free : Bool} {s : State} → Waiting z free s → Waiting z free (states.put instr at s)
  unfolding states.put
  put instr at m = record { scopes = m.scopes; work = m.work; freed = m.freed }

  pub put_call : (instr : Instr) (at : At) (takes leaves : ℕ) {free : Bool} {s : State} → Waiting z free s
      → Waiting z free (states.put_call instr at takes leaves s)
  unfolding states.put_call
  put_call instr at takes leaves m = record { scopes = m.scopes; work = m.work; freed = m.freed }

  pub put_sum : (at : At) {free : Bool} {s : State} → Waiting z free s → Waiting z free (states.put_sum at s)
  unfolding states.put_sum
  put_sum at m = record { scopes = m.scopes; work = m.work; freed = m.freed }

  pub put_difference : (at : At) {free : Bool} {s : State} → Waiting z free s → Waiting z free (states.put_difference at s)
  unfolding states.put_difference
  put_difference at m = record { scopes = m.scopes; work = m.work; freed = m.freed }

  pub put_offset : (offset : ℕ) (at : At) {free : Bool} {s : State} → Waiting z free s → Waiting z free (states.put_offset offset at s)
  unfolding states.put_offset
  put_offset offset at {s} m = record { scopes = left_offset z offset at s.body m.scopes; work = m.work; freed = m.freed }

  pub put_less : (number : ℕ) (at : At) {free : Bool} {s : State} → Waiting z free s → Waiting z free (states.put_less number at s)
  unfolding states.put_less
  put_less number at m = record { scopes = m.scopes; work = m.work; freed = m.freed }

  pub repeated : (top : ℕ) (at : At) {free : Bool} {s : State} → Waiting z free s → Waiting z free (states.repeated top at s)
  unfolding states.repeated
  repeated top at {s} m = record {
    scopes = left_bound z (low.opened (JumpZero 0) (low.put Dup at s.body)) (low.put (JumpTo top) at (low.put (JumpZero 0) at (low.put Dup at s.body))) m.scopes;
    work = m.work;
    freed = m.freed;
  }

  -- ---- jumps

  pub jumped : (at : At) {free : Bool} {s : State} → Waiting z free s → Waiting z free (states.jumped at s)
  unfolding states.jumped
  jumped at m = record { scopes = m.scopes; work = m.work; freed = m.freed }

  pub jumped_if_zero : (at : At) {free : Bool} {s : State} → Waiting z free s → Waiting z free (states.jumped_if_zero at s)
  unfolding states.jumped_if_zero
  jumped_if_zero at m = record { scopes = m.scopes; work = m.work; freed = m.freed }

  pub bound : (jump : Option Jump) {free : Bool} {s : State} → Waiting z free s → Waiting z free (states.bound jump s)
  unfolding states.bound
  bound jump {s} m = record { scopes = left_bound z jump s.body m.scopes; work = m.work; freed = m.freed }

  pub jumped_to : (scope : ℕ) (sort : Sort) (at : At) {free : Bool} {s : State} → Waiting z free s → Waiting z free (states.jumped_to scope sort at s)
  unfolding states.jumped_to
  jumped_to scope sort at m = record { scopes = m.scopes; work = m.work; freed = m.freed }

  pub bound_all : (scope : ℕ) (sort : Sort) {free : Bool} {s : State} → Waiting z free s → Waiting z free (states.bound_all scope sort s)
  unfolding states.bound_all
  bound_all scope sort {s} m = record { scopes = left_bound_all z scope sort s.body.pending s.body m.scopes; work = m.work; freed = m.freed }

  -- ---- scopes

  pub at_scope : (number : ℕ) {free : Bool} {s : State} → Waiting z free s → Waiting z free (states.at_scope number s)
  unfolding states.at_scope
  at_scope number m = record { scopes = m.scopes; work = m.work; freed = m.freed }

  pub at_depth : (depth : ℕ) {free : Bool} {s : State} → Waiting z free s → Waiting z free (states.at_depth depth s)
  unfolding states.at_depth
  at_depth depth m = record { scopes = m.scopes; work = m.work; freed = m.freed }

  pub made_live : (live : Bool) {free : Bool} {s : State} → Waiting z free s → Waiting z free (states.made_live live s)
  unfolding states.made_live
  made_live live m = record { scopes = m.scopes; work = m.work; freed = m.freed }

  pub with_pad : (index : ℕ) {free : Bool} {s : State} → Waiting z free s → Waiting z free (states.with_pad index s)
  unfolding states.with_pad
  with_pad index m = record { scopes = m.scopes; work = m.work; freed = m.freed }

  pub entered_at : (kind : ScopeKind) (depth : ℕ) (at : At) → IsLeft z kind → {free : Bool} {s : State} → Waiting z free s
      → Waiting z free (states.entered_at kind depth at s)
  unfolding states.entered_at
  entered_at kind depth at k {s = s} m = record {
    scopes = left_push z s.body.scopes (low.made kind s.body.scope depth at s.body) m.scopes k;
    work = m.work;
    freed = m.freed;
  }

  pub entered : (kind : ScopeKind) (at : At) → IsLeft z kind → {free : Bool} {s : State} → Waiting z free s → Waiting z free (states.entered kind at s)
  unfolding states.entered
  entered kind at k {s = s} m = record {
    scopes = left_push z s.body.scopes (low.made kind s.body.scope (low.innermost s.body).depth at s.body) m.scopes k;
    work = m.work;
    freed = m.freed;
  }

  pub entered_handler : (at : At) {free : Bool} {s : State} → Waiting z free s → Waiting z free (states.entered_handler at s)
  unfolding states.entered_handler
  entered_handler at {s} m = record {
    scopes = left_push z (low.behind at s.body).scopes (low.handler_in (low.behind_edge s.body) at (low.behind at s.body))
        (left_behind z (length s.body.scopes) (low.innermost s.body).edge 0 at s.body m.scopes) tt;
    work = m.work;
    freed = m.freed;
  }

  pub left : {free : Bool} {s : State} → Waiting z free s → Waiting z free (states.left s)
  unfolding states.left
  left m = record { scopes = m.scopes; work = m.work; freed = m.freed }

  pub left_scope : (number : ℕ) {free : Bool} {s : State} → Waiting z free s → Waiting z free (states.left_scope number s)
  unfolding states.left_scope
  left_scope number m = record { scopes = m.scopes; work = m.work; freed = m.freed }

  pub with_temporary : (kind : ScopeKind) (at : At) → IsLeft z kind → {free : Bool} {s : State} → Waiting z free s
      → Waiting z free (states.with_temporary kind at s)
  unfolding states.with_temporary
  with_temporary kind at k {s = s} m = record {
    scopes = left_temporary z (length s.body.scopes) s.body.scope kind at s.body k m.scopes;
    work = m.work;
    freed = m.freed;
  }

  pub caught_all : (scope : ℕ) {free : Bool} {s : State} → Waiting z free s → Waiting z free (states.caught_all scope s)
  unfolding states.caught_all
  caught_all scope m = record { scopes = m.scopes; work = m.work; freed = m.freed }

  pub caught_one : (scope ty : ℕ) {free : Bool} {s : State} → Waiting z free s → Waiting z free (states.caught_one scope ty s)
  unfolding states.caught_one
  caught_one scope ty m = record { scopes = m.scopes; work = m.work; freed = m.freed }

  -- ---- names and items

  pub named : (name : List ℕ) {free : Bool} {s : State} → Waiting z free s → Waiting z free (states.named name s)
  unfolding states.named
  named name m = record { scopes = m.scopes; work = m.work; freed = m.freed }

  -- an item that holds no jump and no place
  pub more : (item : Item) {free : Bool} {s : State} → MayStand z (is_free s.work) item → claims item ≡ false → Waiting z free s
      → Waiting z free (states.later item s)
  unfolding states.later
  more item {s} k c m = record {
    scopes = m.scopes;
    work = (k, m.work);
    freed = λ e. free_before (is_end item) (claims item) (is_free s.work) c (m.freed e);
  }

  -- the end of a full-expression, before which all may be run
  pub end_full : (at : At) {free : Bool} {s : State} → Waiting z free s → Waiting z true (states.later (Close Full at) s)
  unfolding states.later
  end_full at m = record { scopes = m.scopes; work = (tt, m.work); freed = λ e. refl }

  -- any item, where no temporaries are made
  pub hold : (item : Item) {free : Bool} {s : State} → MayStand z (is_free s.work) item → Waiting z free s → Waiting z false (states.later item s)
  unfolding states.later
  hold item k m = record { scopes = m.scopes; work = (k, m.work); freed = λ e. no_more e }

  pub run_next : (id : TNodeId) (way : Way) {free : Bool} {s : State} → MayRun z free id → Waiting z free s
      → Waiting z free (states.later (Run id way) s)
  run_next id way k m = more (Run id way) (k.0, λ e. m.freed (k.1 e)) refl m

  pub repeat_rest : (o : OtherPart) {s : State} → MayRun z true o.id → Waiting z true s → Waiting z true (conditions.repeat_rest (OtherAgain o) s)
  unfolding conditions.repeat_rest
  repeat_rest o {s} k m = record {
    scopes = m.scopes;
    work = stand_again z s.work (OtherAgain o ∷ s.work) m.work ((k.0, λ e. m.freed refl), m.work);
    freed = λ e. free_again s.work (OtherAgain o ∷ s.work) (m.freed refl);
  }

  pub bind_behind : (jump : Option Jump) {free : Bool} {s : State} → Waiting z free s → Waiting z free (conditions.bind_behind jump s)
  unfolding conditions.bind_behind
  bind_behind jump {s} m = record {
    scopes = m.scopes;
    work = stand_with z (Bind jump) s.work (λ free. tt) m.work;
    freed = λ e. free_with (Bind jump) s.work (m.freed e);
  }
