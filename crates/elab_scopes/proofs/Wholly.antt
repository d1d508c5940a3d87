-- What is made of a full-expression, as a whole.
use Rattle.std.proofs.Common.{◌≡◌, ◌<◌, List, sym, ap, ◌∙◌, Result, Ok, IfOk}
use Rattle.std.specs.declared.alloc.AllocError.{AllocError}
use Rattle.elab_expr.specs.cpp_types.declared.classes.At.{At}
use Rattle.elab_expr.specs.cpp_tree.declared.faults.ElabFault.{ElabFault}
use Rattle.elab_expr.specs.cpp_tree.declared.arena.TNodeId.{TNodeId}
use Rattle.elab_expr.specs.cpp_tree.Trees.{Tree, one}
use Rattle.elab_expr.specs.cpp_tree.Arena.{tree_at, Adds}
use Rattle.elab_expr.specs.elab_ctx.Ctx.{Work, work_of}
use Rattle.elab_expr.specs.elab_ctx.Steps.{and_then, Made}
use Rattle.elab_expr.specs.elab_ctx.Says.{MadeAt}
use Rattle.elab_expr.specs.elab_rules.Statements.{State, Full, done, full, full_made, with_work}
use Rattle.elab_scopes.specs.declared.state.State.{State as StateRec}
use Rattle.elab_scopes.specs.States.{state_of, made, Grown}
use Rattle.elab_scopes.specs.Says.{OneDone}
use Rattle.elab_expr.proofs.elab_ctx.Looks.{grows_trans}
use Rattle.elab_scopes.proofs.Standing.{grown_by, one_grown, last_grown}

whole_is : (a b : StateRec) (at : At) (id : TNodeId) (m : Made) → tree_at (made b) id ≡ m.tree → work_of b.work ≡ m.work
    → with_work (state_of b) (work_of b.work) ≡ with_work (state_of a) (work_of b.work)
    → done (one (full at m.tree)) (with_work (state_of a) m.work) ≡ done (one (full at (tree_at (made b) id))) (with_work (state_of b) (work_of b.work))
whole_is a b at id m t w s = ap (λ (z : Tree). done (one (full at z)) (with_work (state_of a) m.work)) (sym t)
    ∙ ap (λ (z : Work). done (one (full at (tree_at (made b) id))) (with_work (state_of a) z)) (sym w)
    ∙ ap (λ (z : State). done (one (full at (tree_at (made b) id))) z) (sym s)

pub wholes : (a b c : StateRec) (at : At) (id : TNodeId) (m : Made) (r : Result TNodeId AllocError) → Grown a b → tree_at (made b) id ≡ m.tree
    → work_of b.work ≡ m.work → with_work (state_of b) (work_of b.work) ≡ with_work (state_of a) (work_of b.work)
    → IfOk r (λ (i : TNodeId). OneDone b c i (done (one (full at (tree_at (made b) id))) (with_work (state_of b) (work_of b.work))))
    → IfOk r (λ (i : TNodeId). OneDone a c i (done (one (full at m.tree)) (with_work (state_of a) m.work)))
wholes a b c at id m r g t w s h = last_grown a b c r _ _ g (whole_is a b at id m t w s) h

pub whole_made : (a b c : StateRec) (f : Full) (id : TNodeId) (m : Made) (r : TNodeId) (x : Result Made ElabFault) → Grown a b → f.state ≡ state_of a → x ≡ Ok m
    → tree_at (made b) id ≡ m.tree → work_of b.work ≡ m.work → with_work (state_of b) (work_of b.work) ≡ with_work (state_of a) (work_of b.work)
    → OneDone b c r (done (one (full f.operand.at (tree_at (made b) id))) (with_work (state_of b) (work_of b.work))) → OneDone a c r (full_made f x)
whole_made a b c f id m r x g q e t w s h = one_grown a b c r _ _ g
    (ap (full_made f) e ∙ ap (λ (z : State). done (one (full f.operand.at m.tree)) (with_work z m.work)) q ∙ whole_is a b f.operand.at id m t w s) h

-- a node over what was made, behind which no lambdas are known
pub made_done : (a c : StateRec) (f : Full) (b : List Tree) (w : Work) (id : TNodeId) (r : TNodeId) (x : Result Made ElabFault) (g : Tree → Tree)
    → MadeAt (made a) b w id x → Adds b (made c) r (g (tree_at b id)) → f.state ≡ state_of a → state_of c ≡ with_work (state_of a) w
    → OneDone a c r (and_then x (λ (m : Made). done (one (g m.tree)) (with_work f.state m.work)))
made_done a c f b w id r x g m q e s = record {
  grown = grown_by a c (grows_trans m.grows q.grows) (ap (λ (z : State). z.ctx.labels) s);
  within = q.within;
  is = ap (λ (z : Result Made ElabFault). and_then z (λ (k : Made). done (one (g k.tree)) (with_work f.state k.work))) m.is
      ∙ ap (λ (z : State). done (one (g (tree_at b id))) (with_work z w)) e ∙ ap (λ (z : Tree). done (one z) (with_work (state_of a) w)) (sym q.is)
      ∙ ap (λ (z : State). done (one (tree_at (made c) r)) z) (sym s);
}
