-- Scopes that are left.
use Rattle.std.proofs.Common.{Bool, false, nat_eq, true, ℕ, refl}
use Rattle.cpp_tree.specs.cpp_types.declared.classes.At.{At}
use Rattle.cpp_tree.specs.declared.arena.TNodeId.{TNodeId}
use Rattle.tx_code.specs.declared.instr.Instr.TheVariants.{EndHandler, Pop, Push, Ret}
use Rattle.low_code.specs.declared.scopes.Address.TheVariants.{Frame, Node as OfNode, Word}
use Rattle.low_code.specs.declared.scopes.Address.{Address}
use Rattle.low_code.specs.declared.scopes.Owner.{Owner}
use Rattle.low_code.specs.declared.scopes.Scope.{Scope}
use Rattle.low_code.specs.declared.scopes.ScopeKind.TheVariants.{Block, Handler, Mark, Waits}
use Rattle.low_code.specs.declared.scopes.ScopeKind.{ScopeKind}
use Rattle.low_code.specs.declared.writer.Sort.TheVariants.{Again, Past}
use Rattle.unwind_lower.specs.Leaving as leaving_of
use Rattle.unwind_lower.specs.Leaving.{end_of, ends_at}
use Rattle.unwind_lower.specs.Settings.{Setting, words_back}
use Rattle.unwind_lower.specs.States.{State, is_live, scope_at, scope_of}
use Rattle.unwind_lower.specs.declared.items.Item.TheVariants.{Close, Destroy, Leave}
use Rattle.unwind_lower.specs.declared.items.Leaving.TheVariants.{Break, Continue, Return}
use Rattle.unwind_lower.specs.declared.items.Leaving.{Leaving}
use Rattle.lowered_apart.specs.Still.{Nodes}
use Rattle.lowered_apart.specs.Waiting.{IsFound, IsLeft, Waiting}
use Rattle.lowered_apart.proofs.Basic.{at_scope, either, jumped_to, left, more, put, scope_left}
use Rattle.lowered_apart.proofs.Objects.{put_address}

module _ {z : Nodes} where
  pub destroy_waiting : (address : Address) (id : TNodeId) (first : ℕ) (at : At) {s : State} → IsFound z address → Waiting z false s
      → Waiting z false (leaving_of.destroy_waiting address id first at s)
  unfolding leaving_of.destroy_waiting
  destroy_waiting address id first at k m = put_address address at k (more (Destroy id first) tt refl m)

  pub drop_word : (address : Address) (at : At) {free : Bool} {s : State} → Waiting z free s → Waiting z free (leaving_of.drop_word address at s)
  unfolding leaving_of.drop_word
  drop_word (Word offset) at m = put Pop at m
  drop_word (Frame offset) at m = m
  drop_word (OfNode id) at m = m

  pub close_waiting : (b : Bool) (address : Address) (id : TNodeId) (first : ℕ) (made : At) (at : At) {s : State} → IsFound z address → Waiting z false s
      → Waiting z false (leaving_of.close_waiting b address id first made at s)
  unfolding leaving_of.close_waiting
  close_waiting true address id first made at k m = destroy_waiting address id first made k m
  close_waiting false address id first made at k m = drop_word address at m

  pub close_scope : (kind : ScopeKind) (made : At) (owner : Owner) (at : At) {s : State} → IsLeft z kind → Waiting z false s
      → Waiting z false (leaving_of.close_scope kind made owner at s)
  unfolding leaving_of.close_scope
  close_scope (Mark marked) made owner at k m = left m
  close_scope (Waits waiting always address id first) made owner at k m =
      close_waiting always address id first made at k (more (Close owner at) tt refl (left m))
  close_scope kind made owner at k m = m

  pub close : (owner : Owner) (at : At) {s : State} → Waiting z false s → Waiting z false (leaving_of.close owner at s)
  unfolding leaving_of.close
  close owner at {s} m = close_scope (scope_at (scope_of s) s).kind (scope_at (scope_of s) s).at owner at (scope_left m (scope_of s)) m

  pub end_scope : (kind : ScopeKind) (at : At) {free : Bool} {s : State} → Waiting z free s → Waiting z free (leaving_of.end_scope kind at s)
  unfolding leaving_of.end_scope
  end_scope Handler at m = put EndHandler at m
  end_scope (Block edge) at m = put (end_of edge) at m
  end_scope kind at m = m

  pub destroy_always : (b : Bool) (address : Address) (id : TNodeId) (first : ℕ) (at : At) {s : State} → IsFound z address → Waiting z false s
      → Waiting z false (leaving_of.destroy_always b address id first at s)
  unfolding leaving_of.destroy_always
  destroy_always true address id first at k m = destroy_waiting address id first at k m
  destroy_always false address id first at k m = m

  pub destroy_left : (kind : ScopeKind) (at : At) {s : State} → IsLeft z kind → Waiting z false s → Waiting z false (leaving_of.destroy_left kind at s)
  unfolding leaving_of.destroy_left
  destroy_left (Waits owner always address id first) at k m = destroy_always always address id first at k m
  destroy_left kind at k m = m

  leave_one : (scope : Scope) (leaving : Leaving) (origin : ℕ) (at : At) {s : State} → IsLeft z scope.kind → Waiting z false s
      → Waiting z false (leaving_of.leave_one scope leaving origin at s)
  unfolding leaving_of.leave_one
  leave_one scope leaving origin at k m =
      destroy_left scope.kind scope.at k (more (Leave leaving origin at) tt refl (left (end_scope scope.kind at m)))

  jump_out : (g : Setting) (leaving : Leaving) (number : ℕ) (at : At) {free : Bool} {s : State} → Waiting z free s
      → Waiting z free (leaving_of.jump_out g leaving number at s)
  unfolding leaving_of.jump_out
  jump_out g Return number at m = put (Ret (words_back g)) at m
  jump_out g Break number at m = jumped_to number Past at (left m)
  jump_out g Continue number at m = jumped_to number Again at (left m)

  leave_all : (g : Setting) (leaving : Leaving) (number origin : ℕ) (at : At) {free : Bool} {s : State} → Waiting z free s
      → Waiting z free (leaving_of.leave_all g leaving number origin at s)
  unfolding leaving_of.leave_all
  leave_all g leaving number origin at m = at_scope origin (jump_out g leaving number at m)

  leave_from : (g : Setting) (scope : Scope) (leaving : Leaving) (origin : ℕ) (at : At) {s : State} → IsLeft z scope.kind → Waiting z false s
      → Waiting z false (leaving_of.leave_from g scope leaving origin at s)
  unfolding leaving_of.leave_from
  leave_from g scope leaving origin at {s} k m = either (ends_at scope.kind leaving) (leave_all g leaving (scope_of s) origin at m)
      (leave_one scope leaving origin at k m)

  pub leave : (g : Setting) (leaving : Leaving) (origin : ℕ) (at : At) {s : State} → Waiting z false s
      → Waiting z false (leaving_of.leave g leaving origin at s)
  unfolding leaving_of.leave
  leave g leaving origin at {s} m = either (is_live s)
      (leave_from g (scope_at (scope_of s) s) leaving origin at (scope_left m (scope_of s)) m) m

  pub body_ends : (g : Setting) (at : At) {free : Bool} {s : State} → Waiting z free s → Waiting z free (leaving_of.body_ends g at s)
  unfolding leaving_of.body_ends
  body_ends g at m = either (nat_eq (words_back g) 0) (put (Ret 0) at m) (put (Ret 1) at (put (Push 0) at m))
