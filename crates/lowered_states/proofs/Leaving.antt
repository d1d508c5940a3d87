-- Scopes that are left.
use Rattle.std.proofs.Common.{Bool, List, false, length, lt_of_lt_of_le, nat_eq, true, ℕ, ◌<◌}
use Rattle.cpp_tree.specs.cpp_types.declared.classes.At.{At}
use Rattle.cpp_tree.specs.declared.arena.TNodeId.{TNodeId}
use Rattle.tx_code.specs.declared.instr.Instr.TheVariants.{EndHandler, Pop, Push, Ret}
use Rattle.low_code.specs.declared.scopes.Address.TheVariants.{Frame, Node as OfNode, Word}
use Rattle.low_code.specs.declared.scopes.Address.{Address}
use Rattle.low_code.specs.declared.scopes.Owner.{Owner}
use Rattle.low_code.specs.declared.scopes.Scope.{Scope}
use Rattle.low_code.specs.declared.scopes.ScopeKind.TheVariants.{Block, Handler, Mark, Waits}
use Rattle.low_code.specs.declared.scopes.ScopeKind.{ScopeKind}
use Rattle.low_code.specs.declared.writer.Sort.TheVariants.{Again, Past}
use Rattle.unwind_lower.specs.Leaving as leaving_of
use Rattle.unwind_lower.specs.Leaving.{end_of, ends_at}
use Rattle.unwind_lower.specs.Settings.{Setting, words_back}
use Rattle.unwind_lower.specs.States as states
use Rattle.unwind_lower.specs.States.{State, is_live, scope_at, scope_of}
use Rattle.unwind_lower.specs.declared.items.Item.TheVariants.{Close, Destroy, Leave}
use Rattle.unwind_lower.specs.declared.items.Leaving.TheVariants.{Break, Continue, Return}
use Rattle.unwind_lower.specs.declared.items.Leaving.{Leaving}
use Rattle.lowered_states.specs.Claims.{Claim}
use Rattle.lowered_states.proofs.Basic.{at_scope, either, jumped_to, left, more, put, within}
use Rattle.lowered_states.proofs.Moves.{Moves, Start}
use Rattle.lowered_states.proofs.Objects.{made, put_address}
use Rattle.lowered_states.proofs.Whole.{grown}

module _ {z : Start} where
  pub destroy_waiting : (address : Address) (id : TNodeId) (first : ℕ) (at : At) {cs : List Claim} {s : State} → Moves z cs s
      → Moves z cs (leaving_of.destroy_waiting address id first at s)
  unfolding leaving_of.destroy_waiting
  destroy_waiting address id first at m = put_address address at (more (Destroy id first) tt m)

  pub drop_word : (address : Address) (at : At) {cs : List Claim} {s : State} → Moves z cs s → Moves z cs (leaving_of.drop_word address at s)
  unfolding leaving_of.drop_word
  drop_word (Word offset) at m = put Pop at m
  drop_word (Frame offset) at m = m
  drop_word (OfNode id) at m = m

  pub close_waiting : (b : Bool) (address : Address) (id : TNodeId) (first : ℕ) (made : At) (at : At) {cs : List Claim} {s : State} → Moves z cs s
      → Moves z cs (leaving_of.close_waiting b address id first made at s)
  unfolding leaving_of.close_waiting
  close_waiting true address id first made at m = destroy_waiting address id first made m
  close_waiting false address id first made at m = drop_word address at m

  pub close_scope : (kind : ScopeKind) (made : At) (owner : Owner) (at : At) {cs : List Claim} {s : State} → Moves z cs s
      → Moves z cs (leaving_of.close_scope kind made owner at s)
  unfolding leaving_of.close_scope
  close_scope (Mark marked) made owner at m = left m
  close_scope (Waits waiting always address id first) made owner at m = close_waiting always address id first made at (more (Close owner at) tt (left m))
  close_scope kind made owner at m = m

  pub close : (owner : Owner) (at : At) {cs : List Claim} {s : State} → Moves z cs s → Moves z cs (leaving_of.close owner at s)
  unfolding leaving_of.close
  close owner at {s} m = close_scope (scope_at (scope_of s) s).kind (scope_at (scope_of s) s).at owner at m

  pub end_scope : (kind : ScopeKind) (at : At) {cs : List Claim} {s : State} → Moves z cs s → Moves z cs (leaving_of.end_scope kind at s)
  unfolding leaving_of.end_scope
  end_scope Handler at m = put EndHandler at m
  end_scope (Block edge) at m = put (end_of edge) at m
  end_scope kind at m = m

  pub destroy_always : (b : Bool) (address : Address) (id : TNodeId) (first : ℕ) (at : At) {cs : List Claim} {s : State} → Moves z cs s
      → Moves z cs (leaving_of.destroy_always b address id first at s)
  unfolding leaving_of.destroy_always
  destroy_always true address id first at m = destroy_waiting address id first at m
  destroy_always false address id first at m = m

  pub destroy_left : (kind : ScopeKind) (at : At) {cs : List Claim} {s : State} → Moves z cs s → Moves z cs (leaving_of.destroy_left kind at s)
  unfolding leaving_of.destroy_left
  destroy_left (Waits owner always address id first) at m = destroy_always always address id first at m
  destroy_left kind at m = m

  leave_one : (scope : Scope) (leaving : Leaving) (origin : ℕ) (at : At) → origin < length z.from.body.scopes → {cs : List Claim} {s : State} → Moves z cs s
      → Moves z cs (leaving_of.leave_one scope leaving origin at s)
  unfolding leaving_of.leave_one
  leave_one scope leaving origin at l m = let outside = left (end_scope scope.kind at m) in
      destroy_left scope.kind scope.at (more (Leave leaving origin at) (lt_of_lt_of_le l (grown outside)) outside)

  jump_out : (g : Setting) (leaving : Leaving) (number : ℕ) (at : At) {cs : List Claim} {s : State} → number < length s.body.scopes → Moves z cs s
      → Moves z cs (leaving_of.jump_out g leaving number at s)
  unfolding leaving_of.jump_out states.left
  jump_out g Return number at l m = put (Ret (words_back g)) at m
  jump_out g Break number at l m = jumped_to number Past at l (left m)
  jump_out g Continue number at l m = jumped_to number Again at l (left m)

  leave_all : (g : Setting) (leaving : Leaving) (number origin : ℕ) (at : At) → origin < length z.from.body.scopes → {cs : List Claim} {s : State}
      → number < length s.body.scopes → Moves z cs s → Moves z cs (leaving_of.leave_all g leaving number origin at s)
  unfolding leaving_of.leave_all
  leave_all g leaving number origin at l k m = let outside = jump_out g leaving number at k m in
      at_scope origin (lt_of_lt_of_le l (grown outside)) outside

  leave_from : (g : Setting) (scope : Scope) (leaving : Leaving) (origin : ℕ) (at : At) → origin < length z.from.body.scopes → {cs : List Claim} {s : State}
      → Moves z cs s → Moves z cs (leaving_of.leave_from g scope leaving origin at s)
  unfolding leaving_of.leave_from states.scope_of
  leave_from g scope leaving origin at l {s = s} m = either (ends_at scope.kind leaving) (leave_all g leaving s.body.scope origin at l (within m) m)
      (leave_one scope leaving origin at l m)

  pub leave : (g : Setting) (leaving : Leaving) (origin : ℕ) (at : At) → origin < length z.from.body.scopes → {cs : List Claim} {s : State} → Moves z cs s
      → Moves z cs (leaving_of.leave g leaving origin at s)
  unfolding leaving_of.leave
  leave g leaving origin at l {s = s} m = either (is_live s) (leave_from g (scope_at (scope_of s) s) leaving origin at l m) m

  pub body_ends : (g : Setting) (at : At) {cs : List Claim} {s : State} → Moves z cs s → Moves z cs (leaving_of.body_ends g at s)
  unfolding leaving_of.body_ends
  body_ends g at m = either (nat_eq (words_back g) 0) (put (Ret 0) at m) (put (Ret 1) at (put (Push 0) at m))
