-- What stays of a state, in several steps.
use Rattle.std.proofs.Common.{◌≡◌, ◌<◌, ◌++◌, ℕ, List, [], length, refl, sym, ap, ◌∙◌, append_assoc, append-nil, subst, Result, Ok, Err, IfOk}
use Rattle.std.specs.declared.alloc.AllocError.{AllocError}
use Rattle.elab_expr.specs.cpp_tree.declared.faults.ElabFault.{ElabFault}
use Rattle.elab_expr.specs.cpp_tree.declared.arena.TNodeId.{TNodeId}
use Rattle.elab_expr.specs.cpp_tree.Trees.{Tree, one}
use Rattle.elab_expr.specs.cpp_tree.Arena.{tree_at, Grows}
use Rattle.elab_expr.specs.elab_ctx.Ctx.{Labels, ctx_of}
use Rattle.elab_expr.specs.elab_ctx.Steps.{and_then}
use Rattle.elab_expr.proofs.elab_ctx.Looks.{grows_refl, grows_trans}
use Rattle.elab_expr.proofs.elab_ctx.Making.{faults_same}
use Rattle.elab_expr.specs.elab_rules.Statements.{State, Done, Switched, done}
use Rattle.elab_scopes.specs.declared.state.State.{State as StateRec}
use Rattle.elab_scopes.specs.declared.state.SwitchedOn.{SwitchedOn}
use Rattle.elab_scopes.specs.States.{state_of, made, KeepsLabels, Grown}
use Rattle.elab_scopes.specs.Says.{Changes, OneDone, Does, Switches}

pub keeps_refl : (l : Labels) → KeepsLabels l l
keeps_refl l = record { typ = refl; extra = []; words = sym (append-nil l.words) }

pub keeps_trans : (a b c : Labels) → KeepsLabels a b → KeepsLabels b c → KeepsLabels a c
keeps_trans a b c x y = record {
  typ = y.typ ∙ x.typ;
  extra = x.extra ++ y.extra;
  words = y.words ∙ ap (λ (z : List ℕ). z ++ y.extra) x.words
      ∙ append_assoc a.words x.extra y.extra;
}

pub keeps_same : (a b : Labels) → b ≡ a → KeepsLabels a b
keeps_same a b e = subst (λ (z : Labels). KeepsLabels a z) (sym e) (keeps_refl a)

pub grown_refl : (a : StateRec) → Grown a a
grown_refl a = record { trees = grows_refl (made a); labels = keeps_refl (ctx_of a.env).labels }

pub grown_trans : (a b c : StateRec) → Grown a b → Grown b c → Grown a c
grown_trans a b c x y = record {
  trees = grows_trans x.trees y.trees;
  labels = keeps_trans (ctx_of a.env).labels (ctx_of b.env).labels
      (ctx_of c.env).labels x.labels y.labels;
}

pub grown_by : (a b : StateRec) → Grows (made a) (made b) → (ctx_of b.env).labels ≡ (ctx_of a.env).labels → Grown a b
grown_by a b g e = record { trees = g; labels = keeps_same (ctx_of a.env).labels (ctx_of b.env).labels e }

-- What follows a step

pub changes_after : {A : Type 0} (a b c : StateRec) (x : Result A ElabFault) (v : A) (f : A → Result State ElabFault) (r : Result (Unit {0}) ElabFault)
    → Grown a b → x ≡ Ok v → Changes b c r (f v) → Changes a c r (and_then x f)
changes_after {A} a b c x v f (Ok r) g e m = record { grown = grown_trans a b c g m.grown; is = ap (λ (z : Result A ElabFault). and_then z f) e ∙ m.is }
changes_after {A} a b c x v f (Err d) g e m = faults_same d (f v) (and_then x f) (ap (λ (z : Result A ElabFault). and_then z f) e) m

pub does_after : {A : Type 0} (a b c : StateRec) (x : Result A ElabFault) (v : A) (f : A → Result Done ElabFault) (r : Result TNodeId ElabFault) → Grown a b
    → x ≡ Ok v → Does b c r (f v) → Does a c r (and_then x f)
does_after {A} a b c x v f (Ok r) g e m = record {
  grown = grown_trans a b c g m.grown;
  within = m.within;
  is = ap (λ (z : Result A ElabFault). and_then z f) e
      ∙ m.is;
}
does_after {A} a b c x v f (Err d) g e m = faults_same d (f v) (and_then x f) (ap (λ (z : Result A ElabFault). and_then z f) e) m

pub switches_after : {A : Type 0} (a b c : StateRec) (x : Result A ElabFault) (v : A) (f : A → Result Switched ElabFault) (r : Result SwitchedOn ElabFault)
    → Grown a b → x ≡ Ok v → Switches b c r (f v) → Switches a c r (and_then x f)
switches_after {A} a b c x v f (Ok r) g e m = record {
  grown = grown_trans a b c g m.grown;
  within = m.within;
  is = ap
      (λ (z : Result A ElabFault). and_then z f) e ∙ m.is;
}
switches_after {A} a b c x v f (Err d) g e m = faults_same d (f v) (and_then x f) (ap (λ (z : Result A ElabFault). and_then z f) e) m

pub one_after : {A : Type 0} (a b c : StateRec) (x : Result A ElabFault) (v : A) (f : A → Result Done ElabFault) (r : TNodeId) → Grown a b → x ≡ Ok v
    → OneDone b c r (f v) → OneDone a c r (and_then x f)
one_after {A} a b c x v f r g e m = record {
  grown = grown_trans a b c g m.grown;
  within = m.within;
  is = ap (λ (z : Result A ElabFault). and_then z f) e
      ∙ m.is;
}

-- The same of something that is equal

pub does_same : (a c : StateRec) (r : Result TNodeId ElabFault) (x y : Result Done ElabFault) → y ≡ x → Does a c r x → Does a c r y
does_same a c r x y e m = subst (λ (z : Result Done ElabFault). Does a c r z) (sym e) m

pub does_grown : (a b c : StateRec) (r : Result TNodeId ElabFault) (x y : Result Done ElabFault) → Grown a b → y ≡ x → Does b c r x → Does a c r y
does_grown a b c (Ok r) x y g e m = record { grown = grown_trans a b c g m.grown; within = m.within; is = e ∙ m.is }
does_grown a b c (Err d) x y g e m = faults_same d x y e m

pub one_grown : (a b c : StateRec) (r : TNodeId) (x y : Result Done ElabFault) → Grown a b → y ≡ x → OneDone b c r x → OneDone a c r y
one_grown a b c r x y g e m = record { grown = grown_trans a b c g m.grown; within = m.within; is = e ∙ m.is }

pub last_grown : (a b c : StateRec) (r : Result TNodeId AllocError) (x y : Result Done ElabFault) → Grown a b → y ≡ x
    → IfOk r (λ (id : TNodeId). OneDone b c id x) → IfOk r (λ (id : TNodeId). OneDone a c id y)
last_grown a b c (Ok r) x y g e m = one_grown a b c r x y g e m
last_grown a b c (Err d) x y g e m = tt

-- one tree that was added
pub one_added : (a c : StateRec) (r : TNodeId) (t : Tree) (st : State) (x : Result Done ElabFault) → Grown a c → r.0 < length (made c) → tree_at (made c) r ≡ t
    → state_of c ≡ st → x ≡ done (one t) st → OneDone a c r x
one_added a c r t st x g w e s h = record {
  grown = g;
  within = w;
  is = h ∙ ap (λ (z : Tree). done (one z) st) (sym e) ∙ ap
      (λ (z : State). done (one (tree_at (made c) r)) z) (sym s);
}
