-- The ways out for exceptions.
use Rattle.std.proofs.Common.{Bool, false, nat_lt, refl, true, ℕ, ◌&&◌, ◌+◌, ◌-◌}
use Rattle.cpp_tree.specs.cpp_types.declared.classes.At.{At}
use Rattle.cpp_tree.specs.declared.arena.TNodeId.{TNodeId}
use Rattle.cpp_tree.specs.declared.kinds.TKind.TheVariants.{Elements}
use Rattle.cpp_tree.specs.declared.kinds.TKind.{TKind}
use Rattle.tx_code.specs.declared.instr.Instr.TheVariants.{Dup, EndHandler, Jump as JumpTo, Over, Pop, Push, Resume as ResumeIt, Swap}
use Rattle.low_code.specs.Nodes.{Node}
use Rattle.low_code.specs.declared.scopes.Scope.{Scope}
use Rattle.low_code.specs.declared.scopes.ScopeKind.TheVariants.{Behind, Each, Handler, Waits}
use Rattle.low_code.specs.declared.scopes.ScopeKind.{ScopeKind}
use Rattle.unwind_lower.specs.Pads as pads_of
use Rattle.unwind_lower.specs.Pads.{is_way_out, scope_behind}
use Rattle.unwind_lower.specs.Settings.{Setting, node_in}
use Rattle.unwind_lower.specs.States.{State, here, pad_at, scope_at, scope_count, zero_jump_from}
use Rattle.unwind_lower.specs.declared.items.Item.TheVariants.{Destroy, Pads, Resume}
use Rattle.lowered_apart.specs.Still.{Nodes}
use Rattle.lowered_apart.specs.Waiting.{IsLeft, Waiting}
use Rattle.lowered_apart.proofs.Basic.{at_depth, at_scope, bound, either, jumped_if_zero, made_live, more, put, put_difference, put_less, scope_left, with_pad}
use Rattle.lowered_apart.proofs.Objects.{destroy, put_address}

module _ {z : Nodes} where
  start_pad : (scope : Scope) {free : Bool} {s : State} → Waiting z free s → Waiting z free (pads_of.start_pad scope s)
  unfolding pads_of.start_pad
  start_pad scope {s = s} m = at_scope scope.parent (at_depth scope.depth (made_live true (with_pad (here s) m)))

  pub pad_waiting : (id : TNodeId) (first : ℕ) (at : At) {free : Bool} {s : State} → Waiting z free s → Waiting z free (pads_of.pad_waiting id first at s)
  unfolding pads_of.pad_waiting
  pad_waiting id first at m = more (Destroy id first) tt refl (more (Resume at) tt refl m)

  pad_handler : (number parent : ℕ) (at : At) {free : Bool} {s : State} → Waiting z free s → Waiting z free (pads_of.pad_handler number parent at s)
  unfolding pads_of.pad_handler
  pad_handler number parent at m = put ResumeIt at (at_scope parent (put EndHandler at (at_scope number m)))

  leave_behind : (outer : ℕ) (at : At) {free : Bool} {s : State} → Waiting z free s → Waiting z free (pads_of.leave_behind outer at s)
  unfolding pads_of.leave_behind
  leave_behind outer at m = put EndHandler at (at_scope outer m)

  go_on_behind : (next : ℕ) (at : At) {free : Bool} {s : State} → Waiting z free s → Waiting z free (pads_of.go_on_behind next at s)
  unfolding pads_of.go_on_behind
  go_on_behind next at {s = s} m = put (JumpTo (pad_at next s)) at (at_scope (scope_behind (scope_at next s).kind (scope_at next s).parent) m)

  pad_behind : (next outer : ℕ) (at : At) {free : Bool} {s : State} → Waiting z free s → Waiting z free (pads_of.pad_behind next outer at s)
  unfolding pads_of.pad_behind
  pad_behind next outer at m = go_on_behind next at (leave_behind outer at m)

  pub put_built : (count : ℕ) (at : At) {free : Bool} {s : State} → Waiting z free s → Waiting z free (pads_of.put_built count at s)
  unfolding pads_of.put_built
  put_built count at m = put_difference at (put Swap at (put (Push count) at m))

  pub put_copied : (others : ℕ) (stride : ℕ) (at : At) {free : Bool} {s : State} → Waiting z free s → Waiting z free (pads_of.put_copied others stride at s)
  unfolding pads_of.put_copied
  put_copied others stride at m = put Swap at (put_less stride at (put Swap at (put Pop at (put Swap at (put_built others at m)))))

  pub put_built_of : (count : ℕ) (stride : ℕ) (b : Bool) (at : At) {free : Bool} {s : State} → Waiting z free s
      → Waiting z free (pads_of.put_built_of count stride b at s)
  unfolding pads_of.put_built_of
  put_built_of count stride false at m = put_built count at m
  put_built_of count stride true at m = put_copied (count - 1) stride at m

  step_back : (stride : ℕ) (at : At) {free : Bool} {s : State} → Waiting z free s → Waiting z free (pads_of.step_back stride at s)
  unfolding pads_of.step_back
  step_back stride at m = put Over at (put Swap at (put_less stride at (put Swap at (put_less 1 at (jumped_if_zero at m)))))

  destroy_back : (g : Setting) (n : Node) (stride top : ℕ) (at : At) {free : Bool} {s : State} → Waiting z free s
      → Waiting z free (pads_of.destroy_back g n stride top at s)
  unfolding pads_of.destroy_back
  destroy_back g n stride top at {s = s} m = put ResumeIt at (bound (zero_jump_from s) (put (JumpTo top) at (destroy g n 1 (step_back stride at m))))

  destroy_built : (g : Setting) (n : Node) (stride : ℕ) (at : At) {free : Bool} {s : State} → Waiting z free s
      → Waiting z free (pads_of.destroy_built g n stride at s)
  unfolding pads_of.destroy_built
  destroy_built g n stride at {s = s} m = destroy_back g n stride (here s) at (put Dup at m)

  pad_elements : (g : Setting) (kind : TKind) (n : Node) (copies : Bool) (at : At) {free : Bool} {s : State} → Waiting z free s
      → Waiting z free (pads_of.pad_elements g kind n copies at s)
  unfolding pads_of.pad_elements
  pad_elements g (Elements count stride) n copies at m = destroy_built g n stride at (put_built_of count stride copies at m)
  pad_elements g kind n copies at m = m

  pad : (g : Setting) (kind : ScopeKind) (number parent : ℕ) (at : At) {s : State} → IsLeft z kind → Waiting z false s
      → Waiting z false (pads_of.pad g kind number parent at s)
  unfolding pads_of.pad
  pad g (Waits owner always address id first) number parent at k m = put_address address at k (pad_waiting id first at m)
  pad g (Each id copies) number parent at k m = pad_elements g (node_in g id).kind (node_in g id) copies at m
  pad g Handler number parent at k m = pad_handler number parent at m
  pad g (Behind block next outer) number parent at k m = pad_behind next outer at m
  pad g kind number parent at k m = put ResumeIt at m

  pad_of : (g : Setting) (scope : Scope) (number : ℕ) {s : State} → IsLeft z scope.kind → Waiting z false s
      → Waiting z false (pads_of.pad_of g scope number s)
  unfolding pads_of.pad_of
  pad_of g scope number k m = either (is_way_out scope.kind && scope.live) (pad g scope.kind number scope.parent scope.at k (start_pad scope m)) (with_pad 0 m)

  pub pads : (g : Setting) (number : ℕ) {s : State} → Waiting z false s → Waiting z false (pads_of.pads g number s)
  unfolding pads_of.pads
  pads g number {s} m = either (nat_lt number (scope_count s)) (pad_of g (scope_at number s) number (scope_left m number) (more (Pads (number + 1)) tt refl m)) m
