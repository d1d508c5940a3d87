-- Bodies of constructors and destructors, step by step.
use Rattle.std.proofs.Common.{◌≡◌, ◌∙◌, ℕ, true, List, [], length, Result, Err, refl, sym, ap, subst}
use Rattle.elab_entry.specs.cpp_types.Typ.{Typ}
use Rattle.elab_entry.specs.cpp_types.declared.classes.At.{At}
use Rattle.elab_entry.specs.cpp_lex.Tokens.{Lexeme}
use Rattle.elab_entry.specs.cpp_ast.Trees as syntax
use Rattle.elab_entry.specs.cpp_ast.declared.arena.At.{At as SyntaxAt}
use Rattle.elab_entry.specs.cpp_ast.declared.kinds.NodeKind.{NodeKind}
use Rattle.std.proofs.Common.{Option}
use Rattle.elab_entry.specs.cpp_tree.declared.faults.ElabFault.{ElabFault}
use Rattle.elab_entry.specs.cpp_tree.declared.arena.TNodeId.{TNodeId}
use Rattle.elab_entry.specs.cpp_tree.Trees.{Tree, Trees, one}
use Rattle.elab_entry.specs.cpp_tree.Arena.{tree_at, trees_at, Grows, Adds}
use Rattle.elab_entry.specs.elab_ctx.Steps.{and_then, at_of}
use Rattle.elab_entry.specs.elab_ctx.Says.{Faults, are_within}
use Rattle.elab_entry.proofs.elab_ctx.Looks.{grows_refl}
use Rattle.elab_entry.proofs.elab_ctx.Making.{faults_in, faults_same}
use Rattle.elab_entry.proofs.elab_init.Listing.{trees_grown}
use Rattle.elab_entry.specs.elab_rules.Braces.{syntax_place}
use Rattle.elab_entry.specs.elab_rules.Statements.{State, Done, done, Lambdas}
use Rattle.elab_entry.specs.elab_rules.Functions.{Header, with_parameters}
use Rattle.elab_entry.specs.elab_rules.Types.{Parameter}
use Rattle.elab_entry.specs.elab_rules.Members.{constructor_tree, destructor_tree, Giving, all_given, parts_built}
use Rattle.elab_entry.specs.elab_scopes.declared.state.State.{State as StateRec}
use Rattle.elab_entry.specs.elab_scopes.States.{state_of, made, Grown}
use Rattle.elab_entry.specs.elab_scopes.Says.{Changed, Changes, OneDone, Does}
use Rattle.elab_entry.proofs.elab_scopes.Standing.{grown_by, grown_trans, changes_after, does_after}
use Rattle.elab_entry.specs.Round.{Round, round_function, left_by}
use Rattle.elab_entry.specs.Bodies.{body_kept, statements_in}
use Rattle.elab_entry.specs.Says.{Listed}
use Rattle.elab_implicit.specs.Implied.{in_object}
use Rattle.elab_implicit.specs.declared.given.Given.{Given as GivenRec}
use Rattle.elab_members.specs.Bodies.{kept, constructor_block, constructor_given, constructor_inside, destructor_inside}
use Rattle.elab_members.specs.Giving.{giving_in, Gathered}

-- What was made, once more

pub place_is : (tree : syntax.Tree) (kind : NodeKind) (p : SyntaxAt) (token : Option ℕ) (kids : syntax.Trees) (at : At) → tree ≡ syntax.node kind p token kids
    → at ≡ at_of p → at ≡ syntax_place tree
place_is tree kind p token kids at e f = f ∙ sym (ap syntax_place e)

pub does_fail : (a c : StateRec) (r : Result TNodeId ElabFault) (e : ElabFault) (x : Result Done ElabFault) → r ≡ Err e → Faults e x → Does a c r x
does_fail a c r e x h f = subst (λ (z : Result TNodeId ElabFault). Does a c z x) (sym h) f

pub changes_fail : (a c : StateRec) (r : Result (Unit {0}) ElabFault) (e : ElabFault) (x : Result State ElabFault) → r ≡ Err e → Faults e x → Changes a c r x
changes_fail a c r e x h f = subst (λ (z : Result (Unit {0}) ElabFault). Changes a c z x) (sym h) f

pub then_fails : {A B : Type 0} (e : ElabFault) (x : Result A ElabFault) (f : A → Result B ElabFault) → Faults e x → Faults e (and_then x f)
then_fails {A} {B} e x f h = faults_in (λ (z : Result A ElabFault). and_then z f) e x (λ d. refl) h

pub done_fails : {A : Type 0} (e : ElabFault) (x : Result A ElabFault) (f : A → Result Done ElabFault) → Faults e x → Faults e (and_then x f)
done_fails {A} e x f h = faults_in (λ (z : Result A ElabFault). and_then z f) e x (λ d. refl) h

pub state_fails : {A : Type 0} (e : ElabFault) (x : Result A ElabFault) (f : A → Result State ElabFault) → Faults e x → Faults e (and_then x f)
state_fails {A} e x f h = faults_in (λ (z : Result A ElabFault). and_then z f) e x (λ d. refl) h

pub same_trees : (old new : List Tree) → new ≡ old → Grows old new
same_trees old new e = subst (λ (z : List Tree). Grows old z) (sym e) (grows_refl old)

-- what stood round a function stands behind it
pub left_grown : (a d : StateRec) (st : State) (around : Round) → around ≡ round_function (state_of a) → state_of d ≡ left_by around st → made d ≡ made a
    → Grown a d
left_grown a d st around r s t = grown_by a d (same_trees (made a) (made d) t) (ap (λ (z : State). z.ctx.labels) s ∙ ap (λ (z : Round). z.labels) r)

-- one tree over trees that were made
over_list : (a b c : StateRec) (ids : List TNodeId) (r : TNodeId) (x : Result Done ElabFault) (f : State → Trees → Tree) → Listed a b ids x
    → Adds (made b) (made c) r (f (state_of b) (trees_at (made b) ids)) → state_of c ≡ state_of b
    → OneDone a c r (and_then x (λ (d : Done). done (one (f d.state d.trees)) d.state))
over_list a b c ids r x f m n s = record {
  grown = grown_trans a b c m.grown (grown_by b c n.grows (ap (λ (z : State). z.ctx.labels) s));
  within = n.within;
  is = ap (λ (z : Result Done ElabFault). and_then z (λ (d : Done). done (one (f d.state d.trees)) d.state)) m.is
      ∙ ap (λ (z : Tree). done (one z) (state_of b)) (sym n.is) ∙ ap (done (one (tree_at (made c) r))) (sym s);
}

-- Destructors

pub destructor_done : (lams : Lambdas) (s : List Lexeme) (a b c : StateRec) (h : Header) (n : ℕ) (tree : syntax.Tree) (ids : List TNodeId) (r : TNodeId)
    (at p : At) → Listed a b ids (statements_in lams s (state_of a) tree) → p ≡ syntax_place tree → at ≡ h.at
    → Adds (made b) (made c) r (destructor_tree (state_of b).ctx at p n (trees_at (made b) ids)) → state_of c ≡ state_of b
    → OneDone a c r (destructor_inside lams s (state_of a) h n tree)
destructor_done lams s a b c h n tree ids r at p m e f k t =
    over_list a b c ids r (statements_in lams s (state_of a) tree) (λ (st : State) (ts : Trees). destructor_tree st.ctx h.at (syntax_place tree) n ts) m
    (subst (λ (z : At). Adds (made b) (made c) r (destructor_tree (state_of b).ctx h.at z n (trees_at (made b) ids))) e
    (subst (λ (z : At). Adds (made b) (made c) r (destructor_tree (state_of b).ctx z p n (trees_at (made b) ids))) f k)) t

-- Constructors

pub block_done : (lams : Lambdas) (s : List Lexeme) (a b c : StateRec) (parts ids : List TNodeId) (tree : syntax.Tree) (r : TNodeId) (p : At)
    → are_within (length (made a)) parts ≡ true → Listed a b ids (statements_in lams s (state_of a) tree) → p ≡ syntax_place tree
    → Adds (made b) (made c) r (constructor_tree p (trees_at (made b) parts) (trees_at (made b) ids)) → state_of c ≡ state_of b
    → OneDone a c r (constructor_block lams s (record { trees = trees_at (made a) parts; state = state_of a }) tree)
block_done lams s a b c parts ids tree r p w m e k t =
    let before : trees_at (made b) parts ≡ trees_at (made a) parts = trees_grown (made a) (made b) parts m.grown.trees w in
    over_list a b c ids r (statements_in lams s (state_of a) tree)
    (λ (st : State) (ts : Trees). constructor_tree (syntax_place tree) (trees_at (made a) parts) ts) m
    (subst (λ (z : Trees). Adds (made b) (made c) r (constructor_tree (syntax_place tree) z (trees_at (made b) ids))) before
    (subst (λ (z : At). Adds (made b) (made c) r (constructor_tree z (trees_at (made b) parts) (trees_at (made b) ids))) e k)) t

-- what follows what is written
abbrev behind_given : Lambdas → List Lexeme → At → ℕ → syntax.Tree → Giving → Result Done ElabFault
behind_given lams s at n tree g = and_then (parts_built g.state at n g.given) (λ (parts : Done). constructor_block lams s parts tree)

pub given_done : (lams : Lambdas) (s : List Lexeme) (a b c d : StateRec) (h : Header) (n : ℕ) (inits : syntax.Trees) (tree : syntax.Tree)
    (gs those : List GivenRec) (ids : List TNodeId) (r : Result TNodeId ElabFault)
    → Gathered a b gs (all_given lams s n (record { state = state_of a; given = [] }) inits) → those ≡ gs
    → Listed b c ids (parts_built (state_of b) h.at n (giving_in b those).given)
    → Does c d r (constructor_block lams s (record { trees = trees_at (made c) ids; state = state_of c }) tree)
    → Does a d r (constructor_given lams s (state_of a) h n inits tree)
given_done lams s a b c d h n inits tree gs those ids r m e l k =
    let parts : Listed b c ids (parts_built (state_of b) h.at n (giving_in b gs).given) =
    subst (λ (z : List GivenRec). Listed b c ids (parts_built (state_of b) h.at n (giving_in b z).given)) e l in
    does_after a b d (all_given lams s n (record { state = state_of a; given = [] }) inits) (giving_in b gs) (behind_given lams s h.at n tree) r m.grown m.is
    (does_after b c d (parts_built (state_of b) h.at n (giving_in b gs).given) (record { trees = trees_at (made c) ids; state = state_of c })
    (λ (z : Done). constructor_block lams s z tree) r parts.grown parts.is k)

pub given_unbuilt : (lams : Lambdas) (s : List Lexeme) (a b : StateRec) (h : Header) (n : ℕ) (inits : syntax.Trees) (tree : syntax.Tree)
    (gs those : List GivenRec) (e : ElabFault) → Gathered a b gs (all_given lams s n (record { state = state_of a; given = [] }) inits) → those ≡ gs
    → Faults e (parts_built (state_of b) h.at n (giving_in b those).given) → Faults e (constructor_given lams s (state_of a) h n inits tree)
given_unbuilt lams s a b h n inits tree gs those e m q f =
    let parts : Faults e (parts_built (state_of b) h.at n (giving_in b gs).given) =
    subst (λ (z : List GivenRec). Faults e (parts_built (state_of b) h.at n (giving_in b z).given)) q f in
    faults_same e (behind_given lams s h.at n tree (giving_in b gs)) (constructor_given lams s (state_of a) h n inits tree)
    (ap (λ (z : Result Giving ElabFault). and_then z (behind_given lams s h.at n tree)) m.is)
    (done_fails e (parts_built (state_of b) h.at n (giving_in b gs).given) (λ (z : Done). constructor_block lams s z tree) parts)

pub inside_done : (lams : Lambdas) (s : List Lexeme) (a b c : StateRec) (h : Header) (n : ℕ) (inits : syntax.Trees) (tree : syntax.Tree) (ps : List Parameter)
    (r : Result TNodeId ElabFault) → ps ≡ h.params → Changed a b (with_parameters s (state_of a) ps)
    → Does b c r (constructor_given lams s (state_of b) h n inits tree) → Does a c r (constructor_inside lams s (state_of a) h n inits tree)
inside_done lams s a b c h n inits tree ps r e m k = does_after a b c (with_parameters s (state_of a) h.params) (state_of b)
    (λ (z : State). constructor_given lams s z h n inits tree) r m.grown (ap (with_parameters s (state_of a)) (sym e) ∙ m.is) k

pub inside_unnamed : (lams : Lambdas) (s : List Lexeme) (st : State) (h : Header) (n : ℕ) (inits : syntax.Trees) (tree : syntax.Tree) (ps : List Parameter)
    (e : ElabFault) → ps ≡ h.params → Faults e (with_parameters s st ps) → Faults e (constructor_inside lams s st h n inits tree)
inside_unnamed lams s st h n inits tree ps e q m = done_fails e (with_parameters s st h.params) (λ (z : State). constructor_given lams s z h n inits tree)
    (subst (λ (z : List Parameter). Faults e (with_parameters s st z)) q m)

-- A function of an object with its body

kept_is : (a c d : StateRec) (h : Header) (k : ℕ) (around : Round) (t tree : Tree) (frame : List Typ) → around ≡ round_function (state_of a)
    → state_of d ≡ left_by around (state_of c) → tree ≡ t → frame ≡ (state_of c).work.frame
    → kept (state_of a) h k (record { trees = one t; state = state_of c }) ≡ body_kept (state_of d) h.at k tree frame
kept_is a c d h k around t tree frame r s q f =
    ap (λ (z : Round). body_kept (left_by z (state_of c)) h.at k t (state_of c).work.frame) (sym r)
    ∙ ap (λ (z : State). body_kept z h.at k t (state_of c).work.frame) (sym s)
    ∙ ap (λ (z : Tree). body_kept (state_of d) h.at k z (state_of c).work.frame) (sym q)
    ∙ ap (λ (z : List Typ). body_kept (state_of d) h.at k tree z) (sym f)

pub body_refused : (st in_it : State) (h : Header) (k n : ℕ) (f : State → Result Done ElabFault) (e : ElabFault) → in_it ≡ in_object st n → Faults e (f in_it)
    → Faults e (and_then (f (in_object st n)) (kept st h k))
body_refused st in_it h k n f e i m = state_fails e (f (in_object st n)) (kept st h k) (subst (λ (z : State). Faults e (f z)) i m)

pub body_done : (a b c d e : StateRec) (h : Header) (k n : ℕ) (f : State → Result Done ElabFault) (around : Round) (id : TNodeId) (tree : Tree)
    (frame : List Typ) (r : Result (Unit {0}) ElabFault) → state_of b ≡ in_object (state_of a) n → around ≡ round_function (state_of a)
    → OneDone b c id (f (state_of b)) → state_of d ≡ left_by around (state_of c) → made d ≡ made a → tree ≡ tree_at (made c) id
    → frame ≡ (state_of c).work.frame → Changes d e r (body_kept (state_of d) h.at k tree frame)
    → Changes a e r (and_then (f (in_object (state_of a) n)) (kept (state_of a) h k))
body_done a b c d e h k n f around id tree frame r i ro m l t q g o =
    let v : Done = record { trees = one (tree_at (made c) id); state = state_of c } in
    let step : Changes d e r (kept (state_of a) h k v) =
    subst (λ (z : Result State ElabFault). Changes d e r z) (sym (kept_is a c d h k around (tree_at (made c) id) tree frame ro l q g)) o in
    subst (λ (z : State). Changes a e r (and_then (f z) (kept (state_of a) h k))) i
    (changes_after a d e (f (state_of b)) v (kept (state_of a) h k) r (left_grown a d (state_of c) around ro l t) m.is step)
