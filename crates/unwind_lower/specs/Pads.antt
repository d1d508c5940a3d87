-- The ways out for exceptions.
use Rattle.std.specs.Prelude.{Bool, true, false, ◌&&◌, ℕ, ◌+◌, ◌-◌, nat_lt, cond}
use Rattle.cpp_tree.specs.cpp_types.declared.classes.At.{At}
use Rattle.cpp_tree.specs.declared.arena.TNodeId.{TNodeId}
use Rattle.cpp_tree.specs.declared.kinds.TKind.{TKind}
use Rattle.cpp_tree.specs.declared.kinds.TKind.TheVariants.{Elements}
use Rattle.tx_code.specs.declared.instr.Instr.TheVariants.{Push, Dup, Pop, Swap, Over, Jump as JumpTo, EndHandler, Resume as ResumeIt}
use Rattle.low_code.specs.declared.scopes.ScopeKind.{ScopeKind}
use Rattle.low_code.specs.declared.scopes.ScopeKind.TheVariants.{Function, Mark, Waits, Each, Loop, Switch, Try, Handler, Block, Behind}
use Rattle.low_code.specs.declared.scopes.Scope.{Scope}
use Rattle.low_code.specs.Nodes.{Node}
use Rattle.unwind_lower.specs.declared.items.Item.TheVariants.{Destroy, Pads, Resume}
use Rattle.unwind_lower.specs.States.{State, later, put, put_difference, put_less, jumped_if_zero, zero_jump_from, bound}
use Rattle.unwind_lower.specs.States.{with_pad, at_scope, at_depth, made_live, here, scope_at, scope_count, pad_at}
use Rattle.unwind_lower.specs.Settings.{Setting, node_in}
use Rattle.unwind_lower.specs.Objects.{put_address, destroy}

-- a scope of this kind has a way out of its own
abbrev pub is_way_out : ScopeKind → Bool
is_way_out Function = false
is_way_out (Mark owner) = false
is_way_out (Waits owner always address id first) = true
is_way_out (Each id copies) = true
is_way_out Loop = false
is_way_out Switch = false
is_way_out Try = false
is_way_out Handler = true
is_way_out (Block edge) = true
is_way_out (Behind block next outer) = true

-- which scope the way out of another one leads to, from a handler in it
abbrev pub scope_behind : ScopeKind → ℕ → ℕ
scope_behind (Behind block next outer) parent = outer
scope_behind kind parent = parent

-- the way out of a scope begins here, in the scope around
unfoldable pub start_pad : Scope → State → State
start_pad scope s = at_scope scope.parent (at_depth scope.depth (made_live true (with_pad (here s) s)))

-- ---- what is done there

unfoldable pub pad_waiting : TNodeId → ℕ → At → State → State
pad_waiting id first at s = later (Destroy id first) (later (Resume at) s)

unfoldable pub pad_handler : ℕ → ℕ → At → State → State
pad_handler number parent at s = put ResumeIt at (at_scope parent (put EndHandler at (at_scope number s)))

-- the way out of a block from a handler in it: the handler is left
unfoldable pub leave_behind : ℕ → At → State → State
leave_behind outer at s = put EndHandler at (at_scope outer s)

unfoldable pub go_on_behind : ℕ → At → State → State
go_on_behind next at s = put (JumpTo (pad_at next s)) at (at_scope (scope_behind (scope_at next s).kind (scope_at next s).parent) s)

unfoldable pub pad_behind : ℕ → ℕ → At → State → State
pad_behind next outer at s = go_on_behind next at (leave_behind outer at s)

-- how many elements are built, from how many of so many are left
unfoldable pub put_built : ℕ → At → State → State
put_built count at s = put_difference at (put Swap at (put (Push count) at s))

-- the same in a copy, in which the one at hand is not built
unfoldable pub put_copied : ℕ → ℕ → At → State → State
put_copied others stride at s = put Swap at (put_less stride at (put Swap at (put Pop at (put Swap at (put_built others at s)))))

unfoldable pub put_built_of : ℕ → ℕ → Bool → At → State → State
put_built_of count stride false at s = put_built count at s
put_built_of count stride true at s = put_copied (count - 1) stride at s

-- one more element is to be destroyed, where the word on top is not 0
unfoldable pub step_back : ℕ → At → State → State
step_back stride at s = put Over at (put Swap at (put_less stride at (put Swap at (put_less 1 at (jumped_if_zero at s)))))

-- the elements that are built are destroyed in a loop from an index on
unfoldable pub destroy_back : Setting → Node → ℕ → ℕ → At → State → State
destroy_back g n stride top at s = put ResumeIt at (bound (zero_jump_from s) (put (JumpTo top) at (destroy g n 1 (step_back stride at s))))

unfoldable pub destroy_built : Setting → Node → ℕ → At → State → State
destroy_built g n stride at s = destroy_back g n stride (here s) at (put Dup at s)

unfoldable pub pad_elements : Setting → TKind → Node → Bool → At → State → State
pad_elements g (Elements count stride) n copies at s = destroy_built g n stride at (put_built_of count stride copies at s)
pad_elements g kind n copies at s = s

-- what is done on the way out of a scope with this number and parent
unfoldable pub pad : Setting → ScopeKind → ℕ → ℕ → At → State → State
pad g (Waits owner always address id first) number parent at s = put_address address at (pad_waiting id first at s)
pad g (Each id copies) number parent at s = pad_elements g (node_in g id).kind (node_in g id) copies at s
pad g Handler number parent at s = pad_handler number parent at s
pad g (Behind block next outer) number parent at s = pad_behind next outer at s
pad g kind number parent at s = put ResumeIt at s

-- the way out of a scope that has one
unfoldable pub pad_of : Setting → Scope → ℕ → State → State
pad_of g scope number s = cond (is_way_out scope.kind && scope.live)
    (pad g scope.kind number scope.parent scope.at (start_pad scope s)) (with_pad 0 s)

-- the way out of a scope, and then of those behind it
unfoldable pub pads : Setting → ℕ → State → State
pads g number s = cond (nat_lt number (scope_count s)) (pad_of g (scope_at number s) number (later (Pads (number + 1)) s)) s
