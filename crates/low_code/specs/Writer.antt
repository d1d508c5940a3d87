-- Bodies under construction.
use Rattle.std.specs.Prelude.{Bool, true, false, not, ◌&&◌, ◌||◌, ℕ, zero, suc, ◌+◌, ◌-◌, nat_eq, cond, List, [], ◌∷◌, ◌++◌, length, get_or, slice_set, fold, Option, Some, None}
use Rattle.cpp_tree.specs.cpp_types.declared.classes.At.{At}
use Rattle.cpp_tree.specs.Trees.{nowhere}
use Rattle.tx_code.specs.declared.instr.Instr.{Instr}
use Rattle.tx_code.specs.declared.instr.Instr.TheVariants.{Push, Dup, Jump as JumpTo, JumpZero}
use Rattle.low_code.specs.declared.scopes.ScopeKind.{ScopeKind}
use Rattle.low_code.specs.declared.scopes.ScopeKind.TheVariants.{Handler, Behind}
use Rattle.low_code.specs.declared.scopes.Scope.{Scope}
use Rattle.low_code.specs.declared.writer.LowInstr.{LowInstr}
use Rattle.low_code.specs.declared.writer.Jump.{Jump}
use Rattle.low_code.specs.declared.writer.Sort.{Sort}
use Rattle.low_code.specs.declared.writer.Sort.TheVariants.{Past, Again}
use Rattle.low_code.specs.declared.writer.Pending.{Pending}
use Rattle.low_code.specs.declared.writer.Catch.{Catch}
use Rattle.low_code.specs.declared.writer.Writer.{Writer}
use Rattle.low_code.specs.Effects.{takes_of, leaves_of, ends}
use Rattle.low_code.specs.Numbers.{address_sum, address_difference}
use Rattle.low_code.specs.Scopes.{outermost, rows_within, edge_within, opens_atomic, is_full, block_of, led_to}

-- what a `Writer` shows
pub record Body : Type 0 where
  pub code : List LowInstr
  pub scopes : List Scope
  pub catches : List Catch
  pub pads : List ℕ  -- the way out of each scope, once it is written
  pub pending : List Pending
  pub scope : ℕ  -- that of the next instruction
  pub depth : ℕ
  pub live : Bool

abbrev pub body_of : Writer → Body
body_of w = record {
  code = w.code.items;
  scopes = w.scopes.items;
  catches = w.catches.items;
  pads = w.pads.items;
  pending = w.pending.items;
  scope = w.scope;
  depth = w.depth;
  live = w.live;
}

-- a body without instructions
abbrev pub begun : ℕ → At → Body
begun depth at = record { code = []; scopes = outermost at ∷ []; catches = []; pads = []; pending = []; scope = 0; depth = depth; live = true }

-- the scope with a number
abbrev pub scope_in : Body → ℕ → Scope
scope_in b number = get_or b.scopes number (outermost nowhere)

-- the scope of the next instruction
abbrev pub innermost : Body → Scope
innermost b = scope_in b b.scope

-- the body where this is the scope of the next instruction
abbrev pub at_scope : ℕ → Body → Body
at_scope number b = record b { scope = number }

-- ---- instructions

-- An instruction that takes and leaves so many operands; where the next index cannot be reached, nothing is written.
-- The choice stands in the fields that change, so that the others can be read with no case of it.
abbrev pub written : Instr → At → ℕ → ℕ → Body → Body
written instr at takes leaves b = record b {
  code = cond b.live (b.code ++ record { instr = instr; at = at; scope = (innermost b).rows } ∷ []) b.code;
  depth = cond b.live ((b.depth - takes) + leaves) b.depth;
  live = not (ends instr) && b.live;
}

-- an instruction that is no call
abbrev pub put : Instr → At → Body → Body
put instr at b = written instr at (takes_of instr) (leaves_of instr) b

-- a call that takes and hands back so many words
abbrev pub put_call : Instr → At → ℕ → ℕ → Body → Body
put_call instr at takes leaves b = written instr at takes leaves b

abbrev pub put_sum : At → Body → Body
put_sum at b = put address_sum at b

abbrev pub put_difference : At → Body → Body
put_difference at b = put address_difference at b

-- a number is added to the address on top
abbrev pub put_offset : ℕ → At → Body → Body
put_offset offset at b = cond (nat_eq offset 0) b (put_sum at (put (Push offset) at b))

-- a number is taken from the word on top
abbrev pub put_less : ℕ → At → Body → Body
put_less number at b = put_difference at (put (Push number) at b)

-- ---- jumps

-- the jump that such an instruction makes, once it is written
abbrev pub opened : Instr → Body → Option Jump
opened instr b = cond b.live (Some (record { index = length b.code; scope = b.scope; depth = (b.depth - takes_of instr) + leaves_of instr })) None

-- a jump with its target
abbrev pub aimed_instr : ℕ → Instr → Instr
aimed_instr target (JumpZero other) = JumpZero target
aimed_instr target instr = JumpTo target

abbrev pub aimed_low : ℕ → LowInstr → LowInstr
aimed_low target low = record low { instr = aimed_instr target low.instr }

abbrev pub no_low : LowInstr
no_low = record { instr = JumpTo 0; at = nowhere; scope = 0 }

-- the jump at an index leads to the next index
abbrev pub aimed : ℕ → List LowInstr → List LowInstr
aimed index code = slice_set code index (aimed_low (length code) (get_or code index no_low))

abbrev pub aimed_at : ℕ → Body → Body
aimed_at index b = record b { code = aimed index b.code }

-- the next index is where a jump leads to
abbrev pub bound : Option Jump → Body → Body
bound None b = b
bound (Some jump) b = record b { code = aimed jump.index b.code; scope = jump.scope; depth = jump.depth; live = true }

-- a jump that is bound later, if one is made
abbrev pub noted : ℕ → Sort → Option Jump → List Pending → List Pending
noted scope sort None pending = pending
noted scope sort (Some jump) pending = pending ++ record { jump = jump; scope = scope; sort = sort } ∷ []

-- a jump to a place of a scope that is still to come
abbrev pub jumped_to : ℕ → Sort → At → Body → Body
jumped_to scope sort at b = record (put (JumpTo 0) at b) { pending = noted scope sort (opened (JumpTo 0) b) b.pending }

abbrev pub same_sort : Sort → Sort → Bool
same_sort Past Past = true
same_sort Again Again = true
same_sort sort other = false

-- the jump is one to that place of the scope
abbrev pub leads_to : ℕ → Sort → Pending → Bool
leads_to scope sort pending = nat_eq pending.scope scope && same_sort pending.sort sort

abbrev pub bound_there : ℕ → Sort → Body → Pending → Body
bound_there scope sort b pending = cond (leads_to scope sort pending) (bound (Some pending.jump) b) b

-- the next index is that place of the scope
abbrev pub bound_all : ℕ → Sort → Body → Body
bound_all scope sort b = fold (bound_there scope sort) b b.pending

-- a jump back to an index where the word on top, which stays, is not 0
abbrev pub repeated : ℕ → At → Body → Body
repeated top at b =
    let tested : Body = put Dup at b in bound (opened (JumpZero 0) tested) (put (JumpTo top) at (put (JumpZero 0) at tested))

-- ---- scopes

-- the scope that would have the next number, in a parent
abbrev pub made : ScopeKind → ℕ → ℕ → At → Body → Scope
made kind parent depth at b = record {
  kind = kind;
  parent = parent;
  depth = depth;
  rows = rows_within kind (length b.scopes) (scope_in b parent).rows;
  edge = edge_within kind (length b.scopes) (scope_in b parent).edge;
  atomic = opens_atomic kind || (scope_in b parent).atomic;
  live = b.live;
  at = at;
}

-- a scope behind the others; its number is how many these are
abbrev pub added : Scope → Body → Body
added scope b = record b { scopes = b.scopes ++ scope ∷ [] }

-- a scope is added and entered
abbrev pub entered_as : Scope → Body → Body
entered_as scope b = record b { scopes = b.scopes ++ scope ∷ []; scope = length b.scopes }

-- a scope is entered whose way out finds so many operands
abbrev pub entered_at : ScopeKind → ℕ → At → Body → Body
entered_at kind depth at b = entered_as (made kind b.scope depth at b) b

-- a scope is entered whose way out finds as many operands as that of the scope around
abbrev pub entered : ScopeKind → At → Body → Body
entered kind at b = entered_at kind (innermost b).depth at b

-- the innermost scope is left
abbrev pub left : Body → Body
left b = at_scope (innermost b).parent b

-- this scope is left, which is the innermost one
abbrev pub left_scope : ℕ → Body → Body
left_scope scope b = at_scope (scope_in b scope).parent b

-- ---- handlers

-- the way out of the next block outward
abbrev pub outer_by : ScopeKind → ℕ → ℕ
outer_by (Behind block next outer) around = outer
outer_by kind around = around

abbrev pub outer_edge : ℕ → Body → ℕ
outer_edge edge b = outer_by (scope_in b edge).kind (scope_in b (scope_in b edge).parent).edge

-- the way out of a block, seen from a handler, with which it goes on at the way out `next`
abbrev pub behind_scope : ℕ → ℕ → At → Body → Scope
behind_scope block next at b = record {
  kind = Behind block next 0;
  parent = (scope_in b block).parent;
  depth = (scope_in b block).depth;
  rows = length b.scopes;
  edge = length b.scopes;
  atomic = (scope_in b block).atomic;
  live = b.live;
  at = at;
}

-- the way out `outer` is that of the block around that of `inner`, if there is one
abbrev pub led : ℕ → Scope → Scope
led outer scope = record scope { kind = led_to outer scope.kind }

abbrev pub linked : ℕ → ℕ → Body → Body
linked inner outer b = cond (nat_eq inner 0) b (record b { scopes = slice_set b.scopes inner (led outer (scope_in b inner)) })

-- one more way out, outward from that of `last`
abbrev pub behind_one : ℕ → ℕ → At → Body → Body
behind_one edge last at b = linked last (length b.scopes) (added (behind_scope (block_of (scope_in b edge).kind edge) edge at b) b)

-- the ways out of the open blocks from `edge` outward, at most so many of them
abbrev pub behind_from : ℕ → ℕ → ℕ → At → Body → Body
behind_from zero edge last at b = b
behind_from (suc most) edge last at b =
    cond (nat_eq edge 0) b (behind_from most (outer_edge edge b) (length b.scopes) at (behind_one edge last at b))

-- the ways out of the open blocks, seen from a handler that is entered
abbrev pub behind : At → Body → Body
behind at b = behind_from (length b.scopes) (innermost b).edge 0 at b

-- the innermost one of them; 0 where no block is open
abbrev pub behind_edge : Body → ℕ
behind_edge b = cond (nat_eq (innermost b).edge 0) 0 (length b.scopes)

abbrev pub handler_in : ℕ → At → Body → Scope
handler_in edge at b = record (made Handler b.scope (innermost b).depth at b) { edge = edge }

-- a handler is entered
abbrev pub entered_handler : At → Body → Body
entered_handler at b = entered_as (handler_in (behind_edge b) at (behind at b)) (behind at b)

-- ---- temporaries

-- a scope as before, now in the innermost one
abbrev pub entered_again : Scope → Body → Body
entered_again scope b = entered_at scope.kind scope.depth scope.at b

-- scopes as before, the last one first
abbrev pub entered_all : List Scope → Body → Body
entered_all [] b = b
entered_all (scope ∷ scopes) b = entered_again scope (entered_all scopes b)

-- a scope is put around this one and those around it that lie in the full-expression, at most so many
abbrev pub temporary_in : ℕ → ℕ → ScopeKind → At → Body → Body
temporary_in zero number kind at b = b
temporary_in (suc most) number kind at b =
    cond (is_full (scope_in b number).kind) (entered kind at (at_scope number b))
    (entered_again (scope_in b number) (temporary_in most (scope_in b number).parent kind at b))

-- a temporary waits until the end of the full-expression: it comes before the arguments and parts that wait
abbrev pub with_temporary : ScopeKind → At → Body → Body
with_temporary kind at b = temporary_in (length b.scopes) b.scope kind at b

-- ---- catches

abbrev pub caught_as : ℕ → ℕ → ℕ → Body → Body
caught_as scope what ty b = record b { catches = b.catches ++ record { scope = scope; target = length b.code; what = what; ty = ty } ∷ [] }

-- the scope of a `try` takes each exception to the next index
abbrev pub caught_all : ℕ → Body → Body
caught_all scope b = caught_as scope 2 0 b

-- it takes exceptions of this type there
abbrev pub caught_one : ℕ → ℕ → Body → Body
caught_one scope ty b = caught_as scope 1 ty b
