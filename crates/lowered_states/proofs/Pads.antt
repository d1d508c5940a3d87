-- The ways out for exceptions.
use Rattle.std.proofs.Common.{Bool, List, cond, false, length, ltb-true, nat_lt, refl, true, ℕ, ◌&&◌, ◌+◌, ◌-◌, ◌<◌, ◌≡◌}
use Rattle.cpp_tree.specs.cpp_types.declared.classes.At.{At}
use Rattle.cpp_tree.specs.declared.arena.TNodeId.{TNodeId}
use Rattle.cpp_tree.specs.declared.kinds.TKind.TheVariants.{Elements}
use Rattle.cpp_tree.specs.declared.kinds.TKind.{TKind}
use Rattle.tx_code.specs.declared.instr.Instr.TheVariants.{Dup, EndHandler, Jump as JumpTo, Over, Pop, Push, Resume as ResumeIt, Swap}
use Rattle.low_code.specs.Nodes.{Node}
use Rattle.low_code.specs.Writer.{outer_by}
use Rattle.low_code.specs.declared.scopes.Scope.{Scope}
use Rattle.low_code.specs.declared.scopes.ScopeKind.TheVariants.{Behind, Each, Handler, Waits}
use Rattle.low_code.specs.declared.scopes.ScopeKind.{ScopeKind}
use Rattle.unwind_lower.specs.Pads as pads_of
use Rattle.unwind_lower.specs.Pads.{is_way_out, scope_behind}
use Rattle.unwind_lower.specs.Settings.{Setting, node_in}
use Rattle.unwind_lower.specs.States as states
use Rattle.unwind_lower.specs.States.{State, here, pad_at, scope_at, scope_count, zero_jump_from}
use Rattle.unwind_lower.specs.declared.items.Item.TheVariants.{Destroy, Pads, Resume}
use Rattle.lowered_states.specs.Claims.{Claim, with_jump}
use Rattle.lowered_states.specs.Sound.{scope_from}
use Rattle.lowered_states.proofs.Basic.{at_depth, at_scope, bound, either, jumped_if_zero, made_live, more, no_zero_jump, outer_within, parent_within, put, put_difference, put_less, with_pad}
use Rattle.lowered_states.proofs.Blocks.{block}
use Rattle.lowered_states.proofs.Moves.{Moves, Start}
use Rattle.lowered_states.proofs.Objects.{destroy, put_address}

behind_within : (kind : ScopeKind) (parent count : ℕ) → outer_by kind 0 < count → parent < count → scope_behind kind parent < count
behind_within (Behind block next outer) parent count o p = o
behind_within kind parent count o p = p

module _ {z : Start} where
  start_pad : (scope : Scope) → (z.asleep → ⊥) → {cs : List Claim} {s : State} → scope.parent < length s.body.scopes → Moves z cs s
      → Moves z cs (pads_of.start_pad scope s)
  unfolding pads_of.start_pad states.at_depth states.made_live states.with_pad
  start_pad scope q {s = s} l m = at_scope scope.parent l (at_depth scope.depth (made_live true (λ a. absurd (q a)) (with_pad (here s) m)))

  pub pad_waiting : (id : TNodeId) (first : ℕ) (at : At) {cs : List Claim} {s : State} → Moves z cs s → Moves z cs (pads_of.pad_waiting id first at s)
  unfolding pads_of.pad_waiting
  pad_waiting id first at m = more (Destroy id first) tt (more (Resume at) tt m)

  pad_handler : (number parent : ℕ) (at : At) {cs : List Claim} {s : State} → number < length s.body.scopes → parent < length s.body.scopes → Moves z cs s
      → Moves z cs (pads_of.pad_handler number parent at s)
  unfolding pads_of.pad_handler states.at_scope states.put
  pad_handler number parent at l k m = put ResumeIt at (at_scope parent k (put EndHandler at (at_scope number l m)))

  leave_behind : (outer : ℕ) (at : At) {cs : List Claim} {s : State} → outer < length s.body.scopes → Moves z cs s → Moves z cs (pads_of.leave_behind outer at s)
  unfolding pads_of.leave_behind
  leave_behind outer at l m = put EndHandler at (at_scope outer l m)

  go_on_behind : (next : ℕ) (at : At) {cs : List Claim} {s : State} → Moves z cs s → Moves z cs (pads_of.go_on_behind next at s)
  unfolding pads_of.go_on_behind states.scope_at
  go_on_behind next at {s = s} m = put (JumpTo (pad_at next s)) at (at_scope (scope_behind (scope_from s.body.scopes next).kind
      (scope_from s.body.scopes next).parent)
      (behind_within (scope_from s.body.scopes next).kind (scope_from s.body.scopes next).parent (length s.body.scopes) (outer_within m next)
      (parent_within m next)) m)

  pad_behind : (next outer : ℕ) (at : At) {cs : List Claim} {s : State} → outer < length s.body.scopes → Moves z cs s
      → Moves z cs (pads_of.pad_behind next outer at s)
  unfolding pads_of.pad_behind
  pad_behind next outer at l m = go_on_behind next at (leave_behind outer at l m)

  pub put_built : (count : ℕ) (at : At) {cs : List Claim} {s : State} → Moves z cs s → Moves z cs (pads_of.put_built count at s)
  unfolding pads_of.put_built
  put_built count at m = put_difference at (put Swap at (put (Push count) at m))

  pub put_copied : (others : ℕ) (stride : ℕ) (at : At) {cs : List Claim} {s : State} → Moves z cs s → Moves z cs (pads_of.put_copied others stride at s)
  unfolding pads_of.put_copied
  put_copied others stride at m = put Swap at (put_less stride at (put Swap at (put Pop at (put Swap at (put_built others at m)))))

  pub put_built_of : (count : ℕ) (stride : ℕ) (b : Bool) (at : At) {cs : List Claim} {s : State} → Moves z cs s
      → Moves z cs (pads_of.put_built_of count stride b at s)
  unfolding pads_of.put_built_of
  put_built_of count stride false at m = put_built count at m
  put_built_of count stride true at m = put_copied (count - 1) stride at m

  step_back : (stride : ℕ) (at : At) {cs : List Claim} {s : State} → Moves z cs s → Moves z (with_jump (zero_jump_from s) cs) (pads_of.step_back stride at s)
  unfolding pads_of.step_back
  step_back stride at m = put Over at (put Swap at (put_less stride at (put Swap at (put_less 1 at (jumped_if_zero at m)))))

  destroy_back : (g : Setting) (n : Node) (stride top : ℕ) (at : At) {cs : List Claim} {s : State} → Moves z cs s
      → Moves z cs (pads_of.destroy_back g n stride top at s)
  unfolding pads_of.destroy_back
  destroy_back g n stride top at {s = s} m = put ResumeIt at (bound (zero_jump_from s) (no_zero_jump m)
      (put (JumpTo top) at (destroy g n 1 (step_back stride at m))))

  destroy_built : (g : Setting) (n : Node) (stride : ℕ) (at : At) {cs : List Claim} {s : State} → Moves z cs s → Moves z cs (pads_of.destroy_built g n stride at s)
  unfolding pads_of.destroy_built
  destroy_built g n stride at {s = s} m = destroy_back g n stride (here s) at (put Dup at m)

  pad_elements : (g : Setting) (kind : TKind) (n : Node) (copies : Bool) (at : At) {cs : List Claim} {s : State} → Moves z cs s
      → Moves z cs (pads_of.pad_elements g kind n copies at s)
  unfolding pads_of.pad_elements
  pad_elements g (Elements count stride) n copies at m = destroy_built g n stride at (put_built_of count stride copies at m)
  pad_elements g kind n copies at m = m

  pad : (g : Setting) (kind : ScopeKind) (number parent : ℕ) (at : At) {cs : List Claim} {s : State} → number < length s.body.scopes
      → parent < length s.body.scopes → outer_by kind 0 < length s.body.scopes → Moves z cs s → Moves z cs (pads_of.pad g kind number parent at s)
  unfolding pads_of.pad
  pad g (Waits owner always address id first) number parent at l k o m = put_address address at (pad_waiting id first at m)
  pad g (Each id copies) number parent at l k o m = pad_elements g (node_in g id).kind (node_in g id) copies at m
  pad g Handler number parent at l k o m = pad_handler number parent at l k m
  pad g (Behind block next outer) number parent at l k o m = pad_behind next outer at o m
  pad g kind number parent at l k o m = put ResumeIt at m

  pad_of : (g : Setting) (scope : Scope) (number : ℕ) → (z.asleep → ⊥) → {cs : List Claim} {s : State} → number < length s.body.scopes
      → scope.parent < length s.body.scopes → outer_by scope.kind 0 < length s.body.scopes → Moves z cs s → Moves z cs (pads_of.pad_of g scope number s)
  unfolding pads_of.pad_of pads_of.start_pad states.at_scope states.at_depth states.made_live states.with_pad
  pad_of g scope number q l k o m = either (is_way_out scope.kind && scope.live)
      (pad g scope.kind number scope.parent scope.at l k o (start_pad scope q k m)) (with_pad 0 m)

  pub pads : (g : Setting) (number : ℕ) → (z.asleep → ⊥) → {cs : List Claim} {s : State} → Moves z cs s → Moves z cs (pads_of.pads g number s)
  unfolding pads_of.pads states.scope_count states.scope_at states.later
  pads g number q {cs} {s} m = by (nat_lt number (length s.body.scopes)) refl
    where
      by : (v : Bool) → nat_lt number (length s.body.scopes) ≡ v
          → Moves z cs (cond v (pads_of.pad_of g (scope_from s.body.scopes number) number (states.later (Pads (number + 1)) s)) s)
      by true e = pad_of g (scope_from s.body.scopes number) number q (ltb-true number (length s.body.scopes) e) (parent_within m number)
          (outer_within m number) (more (Pads (number + 1)) tt m)
      by false e = m
