-- Scopes are left.
use Rattle.std.specs.Prelude.{Bool, true, false, ℕ, nat_eq, cond}
use Rattle.cpp_tree.specs.cpp_types.declared.classes.At.{At}
use Rattle.cpp_tree.specs.declared.arena.TNodeId.{TNodeId}
use Rattle.tx_code.specs.declared.instr.Instr.{Instr}
use Rattle.tx_code.specs.declared.instr.Instr.TheVariants.{Push, Pop, Ret, End, EndSync, EndHandler}
use Rattle.low_code.specs.declared.scopes.Owner.{Owner}
use Rattle.low_code.specs.declared.scopes.Address.{Address}
use Rattle.low_code.specs.declared.scopes.Address.TheVariants.{Frame, Word, Node as OfNode}
use Rattle.low_code.specs.declared.scopes.ScopeKind.{ScopeKind}
use Rattle.low_code.specs.declared.scopes.ScopeKind.TheVariants.{Function, Mark, Waits, Loop, Switch, Handler, Block}
use Rattle.low_code.specs.declared.scopes.Scope.{Scope}
use Rattle.low_code.specs.declared.writer.Sort.TheVariants.{Past, Again}
use Rattle.unwind_lower.specs.declared.items.Leaving.{Leaving}
use Rattle.unwind_lower.specs.declared.items.Leaving.TheVariants.{Return, Break, Continue}
use Rattle.unwind_lower.specs.declared.items.Item.TheVariants.{Close, Destroy, Leave}
use Rattle.unwind_lower.specs.States.{State, later, put, jumped_to, left, at_scope, scope_of, is_live, scope_at}
use Rattle.unwind_lower.specs.Settings.{Setting, words_back}
use Rattle.unwind_lower.specs.Objects.{put_address}

-- ---- the end of the objects of an owner

-- a waiting object is destroyed, in the scope around: the `Destroy`s of a node from a kid on
unfoldable pub destroy_waiting : Address → TNodeId → ℕ → At → State → State
destroy_waiting address id first at s = put_address address at (later (Destroy id first) s)

-- the address of an object that waits no more
unfoldable pub drop_word : Address → At → State → State
drop_word (Word offset) at s = put Pop at s
drop_word (Frame offset) at s = s
drop_word (OfNode id) at s = s

-- what waits in a scope that is closed
unfoldable pub close_waiting : Bool → Address → TNodeId → ℕ → At → At → State → State
close_waiting true address id first made at s = destroy_waiting address id first made s
close_waiting false address id first made at s = drop_word address at s

-- the innermost scope is closed; what waits in it was made at the first place
unfoldable pub close_scope : ScopeKind → At → Owner → At → State → State
close_scope (Mark marked) made owner at s = left s
close_scope (Waits waiting always address id first) made owner at s = close_waiting always address id first made at (later (Close owner at) (left s))
close_scope kind made owner at s = s

unfoldable pub close : Owner → At → State → State
close owner at s = close_scope (scope_at (scope_of s) s).kind (scope_at (scope_of s) s).at owner at s

-- ---- `return`, `break` and `continue`

-- the way leads to a scope
abbrev pub ends_at : ScopeKind → Leaving → Bool
ends_at Function leaving = true
ends_at Loop Return = false
ends_at Loop Break = true
ends_at Loop Continue = true
ends_at Switch Return = false
ends_at Switch Break = true
ends_at Switch Continue = false
ends_at kind leaving = false

-- the instruction that ends a block with an edge
abbrev pub end_of : ℕ → Instr
end_of edge = cond (nat_eq edge 6) EndSync End

-- the end of a handler or a block
unfoldable pub end_scope : ScopeKind → At → State → State
end_scope Handler at s = put EndHandler at s
end_scope (Block edge) at s = put (end_of edge) at s
end_scope kind at s = s

-- what waits in a scope that is left is destroyed, if it does not wait for an exception alone
unfoldable pub destroy_always : Bool → Address → TNodeId → ℕ → At → State → State
destroy_always true address id first at s = destroy_waiting address id first at s
destroy_always false address id first at s = s

unfoldable pub destroy_left : ScopeKind → At → State → State
destroy_left (Waits owner always address id first) at s = destroy_always always address id first at s
destroy_left kind at s = s

-- a scope is left, and then the others
unfoldable pub leave_one : Scope → Leaving → ℕ → At → State → State
leave_one scope leaving origin at s = destroy_left scope.kind scope.at (later (Leave leaving origin at) (left (end_scope scope.kind at s)))

-- all scopes are left, up to that with a number
unfoldable pub jump_out : Setting → Leaving → ℕ → At → State → State
jump_out g Return number at s = put (Ret (words_back g)) at s
jump_out g Break number at s = jumped_to number Past at (left s)
jump_out g Continue number at s = jumped_to number Again at (left s)

unfoldable pub leave_all : Setting → Leaving → ℕ → ℕ → At → State → State
leave_all g leaving number origin at s = at_scope origin (jump_out g leaving number at s)

unfoldable pub leave_from : Setting → Scope → Leaving → ℕ → At → State → State
leave_from g scope leaving origin at s =
    cond (ends_at scope.kind leaving) (leave_all g leaving (scope_of s) origin at s) (leave_one scope leaving origin at s)

unfoldable pub leave : Setting → Leaving → ℕ → At → State → State
leave g leaving origin at s = cond (is_live s) (leave_from g (scope_at (scope_of s) s) leaving origin at s) s

-- the function's body is done
unfoldable pub body_ends : Setting → At → State → State
body_ends g at s = cond (nat_eq (words_back g) 0) (put (Ret 0) at s) (put (Ret 1) at (put (Push 0) at s))
