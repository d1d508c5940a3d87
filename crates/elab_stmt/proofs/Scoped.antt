-- Statements in scopes of their own, and trees that are put together.
use Rattle.std.proofs.Common.{◌≡◌, ◌<◌, ◌≤◌, ◌++◌, ◌∷◌, ℕ, true, zero, suc, List, [], length, take, refl, sym, ap, ◌∙◌, subst, Result, Ok, Err, arith}
use Rattle.elab_locals.specs.cpp_types.declared.classes.At.{At}
use Rattle.elab_locals.specs.cpp_tree.declared.faults.ElabFault.{ElabFault}
use Rattle.elab_locals.specs.cpp_tree.declared.arena.TNodeId.{TNodeId}
use Rattle.elab_locals.specs.cpp_tree.Trees.{Tree, Trees, none, one}
use Rattle.elab_locals.specs.cpp_tree.Arena.{tree_at, trees_at, Grows, Adds}
use Rattle.elab_locals.specs.elab_ctx.Ctx.{Ctx, Labels, ctx_of, closed}
use Rattle.elab_locals.specs.elab_ctx.Steps.{and_then}
use Rattle.elab_locals.specs.elab_ctx.Says.{Faults, are_within}
use Rattle.elab_locals.proofs.elab_ctx.Looks.{grows_trans, grows_refl, at_grown}
use Rattle.elab_locals.specs.elab_rules.Statements.{State, Done, done, block, outer, the_tree}
use Rattle.elab_locals.specs.elab_scopes.declared.state.State.{State as StateRec}
use Rattle.elab_locals.specs.elab_scopes.declared.state.Mark.{Mark}
use Rattle.elab_locals.specs.elab_scopes.States.{state_of, made, KeepsLabels, Grown, mark_in, labels_at, left_at}
use Rattle.elab_locals.specs.elab_scopes.Says.{OneDone, AllDone, behind}
use Rattle.elab_locals.proofs.elab_scopes.Standing.{keeps_same, grown_trans, grown_by}
use Rattle.elab_locals.proofs.elab_scopes.Behind.{behind_none}

take_first : (xs ys : List ℕ) → take (length xs) (xs ++ ys) ≡ xs
take_first [] ys = refl
take_first (x ∷ xs) ys = ap (λ (z : List ℕ). x ∷ z) (take_first xs ys)

-- the labels around a statement, behind it
pub labels_back : (c d : Ctx) → KeepsLabels c.labels d.labels → labels_at (mark_in c) d.labels ≡ c.labels
labels_back c d k = rw (k.typ, k.words, take_first c.labels.words k.extra) refl

pub left_is : (c d : Ctx) → KeepsLabels c.labels d.labels
    → left_at (mark_in c) d ≡ record (closed d) { label = c.label; labels = c.labels; breaks = c.breaks; continues = c.continues }
left_is c d k = ap (λ (z : Labels). record (closed d) { label = c.label; labels = z; breaks = c.breaks; continues = c.continues }) (labels_back c d k)

same_grows : (a b : List Tree) → b ≡ a → Grows a b
same_grows a b e = subst (λ (z : List Tree). Grows a z) (sym e) (grows_refl a)

pub grown_same : (a b : StateRec) → made b ≡ made a → (ctx_of b.env).labels ≡ (ctx_of a.env).labels → Grown a b
grown_same a b e l = grown_by a b (same_grows (made a) (made b) e) l

-- into a scope, a tree, and out of the scope
pub scoped : (a b c d : StateRec) (m : Mark) (r : TNodeId) (x : Result Done ElabFault) → made b ≡ made a → (ctx_of b.env).labels ≡ (ctx_of a.env).labels
    → OneDone b c r x → m ≡ mark_in (ctx_of a.env) → ctx_of d.env ≡ left_at m (ctx_of c.env) → state_of d ≡ record (state_of c) { ctx = ctx_of d.env }
    → made d ≡ made c → OneDone a d r (and_then x (λ (y : Done). done y.trees (outer (state_of a) y.state)))
scoped a b c d m r x e l h n k s t =
    let keeps : KeepsLabels (ctx_of a.env).labels (ctx_of c.env).labels = subst (λ (z : Labels). KeepsLabels z (ctx_of c.env).labels) l h.grown.labels in
    let ctx : ctx_of d.env ≡ left_at (mark_in (ctx_of a.env)) (ctx_of c.env) = k ∙ ap (λ (z : Mark). left_at z (ctx_of c.env)) n in
    let whole : ctx_of d.env ≡ record (closed (ctx_of c.env)) {
      label = (ctx_of a.env).label;
      labels = (ctx_of a.env).labels;
      breaks = (ctx_of a.env).breaks;
      continues = (ctx_of a.env).continues;
    } = ctx ∙ left_is (ctx_of a.env) (ctx_of c.env) keeps in
    let state : state_of d ≡ outer (state_of a) (state_of c) = s ∙ ap (λ (z : Ctx). record (state_of c) { ctx = z }) whole in
    let tree : tree_at (made d) r ≡ tree_at (made c) r = ap (λ (z : List Tree). tree_at z r) t in
    record {
      grown = grown_by a d (grows_trans (same_grows (made a) (made b) e) (grows_trans h.grown.trees (same_grows (made c) (made d) t)))
          (ap (λ (z : Ctx). z.labels) whole);
      within = subst (λ (z : List Tree). r.0 < length z) (sym t) h.within;
      is = ap (λ (z : Result Done ElabFault). and_then z (λ (y : Done). done y.trees (outer (state_of a) y.state))) h.is
          ∙ ap (λ (z : State). done (one (tree_at (made c) r)) z) (sym state) ∙ ap (λ (z : Tree). done (one z) (state_of d)) (sym tree);
    }

-- Trees that are put together

-- statements as one tree
pub body_made : (a b c : StateRec) (before list : List TNodeId) (r : TNodeId) (at : At) (x : Result Done ElabFault) → before ≡ [] → AllDone a b before list x
    → Adds (made b) (made c) r (block at (trees_at (made b) list)) → state_of c ≡ state_of b
    → OneDone a c r (and_then x (λ (d : Done). done (one (block at d.trees)) d.state))
body_made a b c before list r at x n h m s =
    let all : x ≡ done (trees_at (made b) list) (state_of b) = sym (behind_none x) ∙ ap (λ (z : List TNodeId). behind (trees_at (made a) z) x) (sym n) ∙ h.is in
    record {
      grown = grown_trans a b c h.grown (grown_by b c m.grows (ap (λ (z : State). z.ctx.labels) s));
      within = m.within;
      is = ap (λ (z : Result Done ElabFault). and_then z (λ (d : Done). done (one (block at d.trees)) d.state)) all
          ∙ ap (λ (z : Tree). done (one z) (state_of b)) (sym m.is) ∙ ap (λ (z : State). done (one (tree_at (made c) r)) z) (sym s);
    }

-- a node over a tree that was made
pub node_over : (a b c : StateRec) (y r : TNodeId) (x : Result Done ElabFault) (at : At) (f : Tree → Tree) → OneDone a b y x
    → Adds (made b) (made c) r (f (tree_at (made b) y)) → state_of c ≡ state_of b
    → OneDone a c r (and_then x (λ (d : Done). done (one (f (the_tree at d.trees))) d.state))
node_over a b c y r x at f h m s = record {
  grown = grown_trans a b c h.grown (grown_by b c m.grows (ap (λ (z : State). z.ctx.labels) s));
  within = m.within;
  is = ap (λ (z : Result Done ElabFault). and_then z (λ (d : Done). done (one (f (the_tree at d.trees))) d.state)) h.is
      ∙ ap (λ (z : Tree). done (one z) (state_of b)) (sym m.is) ∙ ap (λ (z : State). done (one (tree_at (made c) r)) z) (sym s);
}
