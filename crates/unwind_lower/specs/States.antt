-- What is written of a function, and what is still to be written. Each step of the writing is a function of such states.
use Rattle.std.specs.Prelude.{Bool, ℕ, List, ◌∷◌, ◌++◌, [], length, reverse, slice_get, unwrap_or, Option}
use Rattle.cpp_tree.specs.cpp_types.declared.classes.At.{At}
use Rattle.tx_code.specs.declared.instr.Instr.{Instr}
use Rattle.tx_code.specs.declared.instr.Instr.TheVariants.{Jump as JumpTo, JumpZero}
use Rattle.low_code.specs.declared.scopes.ScopeKind.{ScopeKind}
use Rattle.low_code.specs.declared.scopes.Scope.{Scope}
use Rattle.low_code.specs.declared.writer.Jump.{Jump}
use Rattle.low_code.specs.declared.writer.Sort.{Sort}
use Rattle.low_code.specs.Names as table
use Rattle.low_code.specs.Writer.{Body, body_of}
use Rattle.low_code.specs.Writer as low
use Rattle.unwind_lower.specs.declared.items.Item.{Item}
use Rattle.unwind_lower.specs.declared.writing.Writing.{Writing}

-- the names by their numbers, the body, and the items that are still to be written, the next one first
pub record State : Type 0 where
  pub names : List (List ℕ)
  pub body : Body
  pub work : List Item

unfoldable pub state_of : Writing → State
state_of w = record { names = w.names; body = body_of w.out; work = reverse w.work.items }

-- an item is to be written next
unfoldable pub later : Item → State → State
later item s = record s { work = item ∷ s.work }

-- ---- instructions

unfoldable pub put : Instr → At → State → State
put instr at s = record s { body = low.put instr at s.body }

unfoldable pub put_call : Instr → At → ℕ → ℕ → State → State
put_call instr at takes leaves s = record s { body = low.put_call instr at takes leaves s.body }

unfoldable pub put_sum : At → State → State
put_sum at s = record s { body = low.put_sum at s.body }

unfoldable pub put_difference : At → State → State
put_difference at s = record s { body = low.put_difference at s.body }

unfoldable pub put_offset : ℕ → At → State → State
put_offset offset at s = record s { body = low.put_offset offset at s.body }

unfoldable pub put_less : ℕ → At → State → State
put_less number at s = record s { body = low.put_less number at s.body }

unfoldable pub repeated : ℕ → At → State → State
repeated top at s = record s { body = low.repeated top at s.body }

-- ---- jumps

-- a jump, and where it is made
unfoldable pub jumped : At → State → State
jumped at s = record s { body = low.put (JumpTo 0) at s.body }

unfoldable pub jump_from : State → Option Jump
jump_from s = low.opened (JumpTo 0) s.body

-- a jump that takes a word and is made where it is 0
unfoldable pub jumped_if_zero : At → State → State
jumped_if_zero at s = record s { body = low.put (JumpZero 0) at s.body }

unfoldable pub zero_jump_from : State → Option Jump
zero_jump_from s = low.opened (JumpZero 0) s.body

unfoldable pub bound : Option Jump → State → State
bound jump s = record s { body = low.bound jump s.body }

unfoldable pub jumped_to : ℕ → Sort → At → State → State
jumped_to scope sort at s = record s { body = low.jumped_to scope sort at s.body }

unfoldable pub bound_all : ℕ → Sort → State → State
bound_all scope sort s = record s { body = low.bound_all scope sort s.body }

-- ---- scopes

unfoldable pub entered_at : ScopeKind → ℕ → At → State → State
entered_at kind depth at s = record s { body = low.entered_at kind depth at s.body }

unfoldable pub entered : ScopeKind → At → State → State
entered kind at s = record s { body = low.entered kind at s.body }

unfoldable pub entered_handler : At → State → State
entered_handler at s = record s { body = low.entered_handler at s.body }

-- the number of the handler that is entered then
unfoldable pub handler_from : At → State → ℕ
handler_from at s = length (low.behind at s.body).scopes

unfoldable pub left : State → State
left s = record s { body = low.left s.body }

unfoldable pub left_scope : ℕ → State → State
left_scope scope s = record s { body = low.left_scope scope s.body }

unfoldable pub with_temporary : ScopeKind → At → State → State
with_temporary kind at s = record s { body = low.with_temporary kind at s.body }

unfoldable pub caught_all : ℕ → State → State
caught_all scope s = record s { body = low.caught_all scope s.body }

unfoldable pub caught_one : ℕ → ℕ → State → State
caught_one scope ty s = record s { body = low.caught_one scope ty s.body }

-- the way out of the next scope begins at an index
unfoldable pub with_pad : ℕ → State → State
with_pad index s = record s { body = record s.body { pads = s.body.pads ++ index ∷ [] } }

unfoldable pub at_scope : ℕ → State → State
at_scope scope s = record s { body = record s.body { scope = scope } }

unfoldable pub at_depth : ℕ → State → State
at_depth depth s = record s { body = record s.body { depth = depth } }

unfoldable pub made_live : Bool → State → State
made_live live s = record s { body = record s.body { live = live } }

-- ---- names

-- a name, which is added where it is new, and its number
unfoldable pub named : List ℕ → State → State
named name s = record s { names = table.with_name name s.names }

unfoldable pub number_of : List ℕ → State → ℕ
number_of name s = table.number_of name s.names

-- ---- what a state has

-- the index of the next instruction
unfoldable pub here : State → ℕ
here s = length s.body.code

unfoldable pub scope_of : State → ℕ
scope_of s = s.body.scope

unfoldable pub depth_of : State → ℕ
depth_of s = s.body.depth

unfoldable pub is_live : State → Bool
is_live s = s.body.live

unfoldable pub scope_at : ℕ → State → Scope
scope_at number s = low.scope_in s.body number

-- how many scopes there are: the number of the next one
unfoldable pub scope_count : State → ℕ
scope_count s = length s.body.scopes

unfoldable pub pad_at : ℕ → State → ℕ
pad_at scope s = unwrap_or (slice_get s.body.pads scope) 0
