-- Statements, one behind the other.
use Rattle.std.proofs.Common.{◌≡◌, ◌<◌, ◌≤◌, ◌+◌, ◌++◌, ◌∷◌, ℕ, true, List, [], length, drop, get_or, refl, sym, ap, ◌∙◌, subst, Result, Ok, Err}
use Rattle.elab_expr.specs.cpp_ast.Trees as syntax
use Rattle.elab_expr.specs.cpp_ast.declared.arena.NodeId.{NodeId}
use Rattle.elab_expr.specs.cpp_tree.declared.faults.ElabFault.{ElabFault}
use Rattle.elab_expr.specs.cpp_tree.declared.faults.ElabFault.TheVariants.{Ill, Override, JumpIntoBlock, Limit, Memory}
use Rattle.elab_expr.specs.cpp_tree.declared.arena.TNodeId.{TNodeId}
use Rattle.elab_expr.specs.cpp_tree.Trees.{Tree, Trees, none, one}
use Rattle.elab_expr.specs.cpp_tree.Arena.{tree_at, trees_at}
use Rattle.elab_expr.specs.elab_ctx.Steps.{and_then}
use Rattle.elab_expr.specs.elab_ctx.Says.{Faults, are_within}
use Rattle.elab_expr.proofs.elab_ctx.Making.{faults_in, faults_same}
use Rattle.elab_expr.proofs.elab_init.Listing.{trees_append, trees_grown, all_within_grown, within_both, within_one, followed_twice, followed_none, drop_step}
use Rattle.elab_expr.proofs.elab_init.Listing.{drop_past}
use Rattle.elab_expr.specs.elab_rules.Objects.{followed_by}
use Rattle.elab_expr.specs.elab_rules.Statements.{State, Done, done, joined}
use Rattle.elab_expr.specs.elab_types.Syntax.{tree_at as syntax_at, trees_at as syntaxes_at}
use Rattle.elab_scopes.specs.declared.state.State.{State as StateRec}
use Rattle.elab_scopes.specs.States.{state_of, made, Grown}
use Rattle.elab_scopes.specs.Says.{OneDone, AllDone, DoesAll, behind}
use Rattle.elab_scopes.proofs.Standing.{grown_trans, grown_refl}

pub behind_none : (x : Result Done ElabFault) → behind none x ≡ x
behind_none (Ok d) = refl
behind_none (Err e) = refl

pub behind_fault : (ts : Trees) (e : ElabFault) (x : Result Done ElabFault) → Faults e x → Faults e (behind ts x)
behind_fault ts e x h = faults_in (behind ts) e x (λ d. refl) h

-- what is known of the whole fault is known of the part, since a prefix makes none
pub behind_refused : (ts : Trees) (e : ElabFault) (x : Result Done ElabFault) → behind ts x ≡ Err e → x ≡ Err e
behind_refused ts e (Ok d) h = absurd cc
behind_refused ts e (Err f) h = h

-- one tree behind others
pub all_one : (a b : StateRec) (ids next : List TNodeId) (r : TNodeId) (x : Result Done ElabFault) → are_within (length (made a)) ids ≡ true → OneDone a b r x
    → next ≡ ids ++ r ∷ [] → AllDone a b ids next x
all_one a b ids next r x w m n =
    let kept : trees_at (made b) ids ≡ trees_at (made a) ids = trees_grown (made a) (made b) ids m.grown.trees w in
    let all : trees_at (made b) next ≡ followed_by (trees_at (made a) ids) (one (tree_at (made b) r)) = ap (trees_at (made b)) n
    ∙ trees_append (made b) ids (r ∷ []) ∙ ap (λ (z : Trees). followed_by z (one (tree_at (made b) r))) kept in
    record {
      grown = m.grown;
      within = subst (λ (z : List TNodeId). are_within (length (made b)) z ≡ true) (sym n)
          (within_both (length (made b)) ids (r ∷ []) (all_within_grown (made a) (made b) ids m.grown.trees w) (within_one (length (made b)) r m.within));
      is = ap (behind (trees_at (made a) ids)) m.is ∙ ap (λ (z : Trees). done z (state_of b)) (sym all);
    }

-- further statements behind these
behind_then : (ts us : Trees) (y : Result Done ElabFault) (s : State)
    → behind ts (and_then y (λ (d : Done). Ok (joined (record { trees = us; state = s }) d))) ≡ behind (followed_by ts us) y
behind_then ts us (Ok d) s = ap (λ (z : Trees). done z d.state) (sym (followed_twice ts us d.trees))
behind_then ts us (Err e) s = refl

-- what was made, if anything was
abbrev got : Result Done ElabFault → Done → Done
got (Ok d) e = d
got (Err x) e = e

behind_done : (ts : Trees) (x : Result Done ElabFault) (f : State → Result Done ElabFault) (us : Trees) (s : State) → behind ts x ≡ done us s
    → behind ts (and_then x (λ (d : Done). and_then (f d.state) (λ (y : Done). Ok (joined d y)))) ≡ behind us (f s)
behind_done ts (Ok d) f us s h =
    let trees : followed_by ts d.trees ≡ us = ap (λ (z : Result Done ElabFault). (got z d).trees) h in
    let state : d.state ≡ s = ap (λ (z : Result Done ElabFault). (got z d).state) h in
    behind_then ts d.trees (f d.state) d.state ∙ ap (λ (z : Trees). behind z (f d.state)) trees ∙ ap (λ (z : State). behind us (f z)) state
behind_done ts (Err e) f us s h = absurd cc

-- the statements of which `rest` are left, where the whole gives `x`
pub record SoFar (a b : StateRec) (before now : List TNodeId) (rest x : Result Done ElabFault) : Type 0 where
  pub grown : Grown a b
  pub within : are_within (length (made b)) now ≡ true
  pub is : behind (trees_at (made a) before) x ≡ behind (trees_at (made b) now) rest

pub so_far_none : (a : StateRec) (before : List TNodeId) (x : Result Done ElabFault) → are_within (length (made a)) before ≡ true → SoFar a a before before x x
so_far_none a before x w = record { grown = grown_refl a; within = w; is = refl }

pub so_far_more : (a b c : StateRec) (before now next : List TNodeId) (rest x y : Result Done ElabFault) (f : State → Result Done ElabFault)
    → SoFar a b before now rest x → rest ≡ and_then y (λ (d : Done). and_then (f d.state) (λ (z : Done). Ok (joined d z))) → AllDone b c now next y
    → SoFar a c before next (f (state_of c)) x
so_far_more a b c before now next rest x y f m e n = record {
  grown = grown_trans a b c m.grown n.grown;
  within = n.within;
  is = m.is ∙ ap (behind (trees_at (made b) now)) e ∙ behind_done (trees_at (made b) now) y f (trees_at (made c) next) (state_of c) n.is;
}

-- a fault of what is left is one of the whole
faulty : (ts us : Trees) (e : ElabFault) (x y : Result Done ElabFault) → behind ts x ≡ behind us y → y ≡ Err e → x ≡ Err e
faulty ts us e x y h f = behind_refused ts e x (h ∙ ap (behind us) f)

faults_behind : (ts us : Trees) (e : ElabFault) (x y : Result Done ElabFault) → behind ts x ≡ behind us y → Faults e y → Faults e x
faults_behind ts us (Ill at rule) x y h f = faulty ts us (Ill at rule) x y h f
faults_behind ts us (Override at rule) x y h f = faulty ts us (Override at rule) x y h f
faults_behind ts us (JumpIntoBlock at) x y h f = faulty ts us (JumpIntoBlock at) x y h f
faults_behind ts us (Limit at which) x y h f = faulty ts us (Limit at which) x y h f
faults_behind ts us Memory x y h f = tt

pub so_far_fault : (a b : StateRec) (before now : List TNodeId) (rest x y : Result Done ElabFault) (f : Done → Result Done ElabFault) (e : ElabFault)
    → SoFar a b before now rest x → rest ≡ and_then y f → Faults e y → Faults e x
so_far_fault a b before now rest x y f e m h g = faults_behind (trees_at (made a) before) (trees_at (made b) now) e x rest m.is
    (faults_same e (and_then y f) rest h (faults_in (λ (z : Result Done ElabFault). and_then z f) e y (λ d. refl) g))

pub so_far_done : (a b : StateRec) (before now : List TNodeId) (rest x : Result Done ElabFault) → SoFar a b before now rest x → rest ≡ done none (state_of b)
    → AllDone a b before now x
so_far_done a b before now rest x m e = record {
  grown = m.grown;
  within = m.within;
  is = m.is ∙ ap (behind (trees_at (made b) now)) e ∙ ap (λ (z : Trees). done z (state_of b)) (followed_none (trees_at (made b) now));
}

-- one tree, then what is behind it
pub all_after : (a b c : StateRec) (before mid next : List TNodeId) (t : TNodeId) (r : Result (Unit {0}) ElabFault) (x : Result Done ElabFault)
    (f : State → Result Done ElabFault) → are_within (length (made a)) before ≡ true → OneDone a b t x → mid ≡ before ++ t ∷ []
    → DoesAll b c mid next r (f (state_of b)) → DoesAll a c before next r (and_then x (λ (d : Done). and_then (f d.state) (λ (y : Done). Ok (joined d y))))
all_after a b c before mid next t (Ok u) x f w m n h =
    let first : AllDone a b before mid x = all_one a b before mid t x w m n in
    record {
      grown = grown_trans a b c m.grown h.grown;
      within = h.within;
      is = behind_done (trees_at (made a) before) x f (trees_at (made b) mid) (state_of b) first.is ∙ h.is;
    }
all_after a b c before mid next t (Err e) x f w m n h =
    let v : Done = record { trees = one (tree_at (made b) t); state = state_of b } in
    faults_same e (and_then (f (state_of b)) (λ (y : Done). Ok (joined v y))) (and_then x (λ (d : Done). and_then (f d.state) (λ (y : Done). Ok (joined d y))))
    (ap (λ (z : Result Done ElabFault). and_then z (λ (d : Done). and_then (f d.state) (λ (y : Done). Ok (joined d y)))) m.is)
    (faults_in (λ (z : Result Done ElabFault). and_then z (λ (y : Done). Ok (joined v y))) e (f (state_of b)) (λ d. refl) h)

-- Lists of syntax nodes

pub trees_step : (ts : List syntax.Tree) (ids : List NodeId) (i : ℕ) (id : NodeId) → i < length ids → id ≡ get_or ids i id
    → syntaxes_at ts (drop i ids) ≡ syntax.more (syntax_at ts id) (syntaxes_at ts (drop (i + 1) ids))
trees_step ts ids i id h e = ap (syntaxes_at ts) (drop_step ids i id h)
    ∙ ap (λ (z : NodeId). syntax.more (syntax_at ts z) (syntaxes_at ts (drop (i + 1) ids))) (sym e)

pub trees_past : (ts : List syntax.Tree) (ids : List NodeId) (i : ℕ) → length ids ≤ i → syntaxes_at ts (drop i ids) ≡ syntax.none
trees_past ts ids i h = ap (syntaxes_at ts) (drop_past ids i h)
