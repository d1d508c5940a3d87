-- The body of a lambda, step by step.
use Rattle.std.proofs.Common.{◌≡◌, ◌∙◌, ℕ, Bool, true, false, List, [], length, Option, None, Result, Ok, Err, Vec, refl, sym, ap, subst}
use Rattle.std.specs.declared.alloc.Global.{Global}
use Rattle.elab_entry.specs.cpp_types.Typ.{Typ, Signature, void, typ_of}
use Rattle.elab_entry.specs.cpp_types.declared.types.Ty.{Ty}
use Rattle.elab_entry.specs.cpp_types.Class.{held}
use Rattle.elab_entry.specs.cpp_types.declared.classes.At.{At}
use Rattle.elab_entry.specs.cpp_lex.Tokens.{Lexeme}
use Rattle.elab_entry.specs.cpp_ast.Trees as syntax
use Rattle.elab_entry.specs.cpp_ast.declared.arena.At.{At as SyntaxAt}
use Rattle.elab_entry.specs.cpp_ast.declared.arena.NodeId.{NodeId}
use Rattle.elab_entry.specs.cpp_ast.declared.kinds.NodeKind.{NodeKind}
use Rattle.elab_entry.specs.cpp_tree.declared.faults.ElabFault.{ElabFault}
use Rattle.elab_entry.specs.cpp_tree.declared.faults.ElabFault.TheVariants.{Ill}
use Rattle.elab_entry.specs.cpp_tree.declared.faults.IllRule.TheVariants.{Incomplete}
use Rattle.elab_entry.specs.cpp_tree.declared.arena.TNodeId.{TNodeId}
use Rattle.elab_entry.specs.cpp_tree.Notation.{plain}
use Rattle.elab_entry.specs.cpp_tree.Trees.{Tree, one}
use Rattle.elab_entry.specs.cpp_tree.Arena.{tree_at, trees_at, Grows, Adds}
use Rattle.elab_entry.specs.elab_ctx.Ctx.{Returns, known, deduced}
use Rattle.elab_entry.specs.elab_ctx.Steps.{and_then, check}
use Rattle.elab_entry.specs.elab_ctx.Says.{Faults, AddsAll}
use Rattle.elab_entry.proofs.elab_ctx.Looks.{grows_trans, grows_refl}
use Rattle.elab_entry.proofs.elab_ctx.Making.{faults_in, faults_same}
use Rattle.elab_entry.specs.elab_rules.Objects.{followed_by}
use Rattle.elab_entry.specs.elab_rules.Operators.{is_complete}
use Rattle.elab_entry.specs.elab_rules.Statements.{State, Done, done, block, statements_of}
use Rattle.elab_entry.specs.elab_rules.Functions.{with_parameters, end_of}
use Rattle.elab_entry.specs.elab_rules.Lambdas.{Written, no_lambda, kids_of, body_statements, closure_sized, result_in}
use Rattle.elab_entry.specs.elab_types.Syntax.{trees_at as syntaxes_at}
use Rattle.elab_entry.specs.elab_scopes.declared.state.State.{State as StateRec}
use Rattle.elab_entry.specs.elab_scopes.States.{state_of, made, Grown}
use Rattle.elab_entry.specs.elab_scopes.Says.{Changed, Changes, OneDone, AllDone, behind}
use Rattle.elab_entry.proofs.elab_scopes.Standing.{grown_trans, grown_by, changes_after, one_after}
use Rattle.elab_entry.proofs.elab_scopes.Behind.{behind_none}
use Rattle.elab_entry.specs.Round.{Round, round_lambda, left_by}
use Rattle.elab_entry.specs.Bodies.{body_kept, body_made}
use Rattle.elab_lambdas.specs.Whole.{Deduced, closure_entered, ended, body_inside, kept, lambda_with, result_read}
use Rattle.elab_lambdas.specs.Outcomes.{AllListed, Lists, DeducedAt}

-- The statements of a body

pub listed_is : (a c : StateRec) (before : List TNodeId) (v : Vec TNodeId Global) (x : Result Done ElabFault) → before ≡ [] → AllDone a c before v.items x
    → AllListed a c v x
listed_is a c before v x e m = record {
  grown = m.grown;
  within = m.within;
  is = sym (ap (λ (z : List TNodeId). behind (trees_at (made a) z) x) e ∙ behind_none x) ∙ m.is;
}

pub listed_in : (s : List Lexeme) (a c : StateRec) (before : List TNodeId) (v : Vec TNodeId Global) (t : syntax.Tree) (kind : NodeKind) (p : SyntaxAt)
    (o : Option ℕ) (trees : List syntax.Tree) (kids ids : List NodeId) → t ≡ syntax.node kind p o (syntaxes_at trees kids) → ids ≡ kids → before ≡ []
    → AllDone a c before v.items (statements_of no_lambda s (state_of a) (syntaxes_at trees ids))
    → AllListed a c v (statements_of no_lambda s (state_of a) (kids_of t))
listed_in s a c before v t kind p o trees kids ids e q h m =
    subst (λ (z : syntax.Trees). AllListed a c v (statements_of no_lambda s (state_of a) z)) (sym (ap kids_of e ∙ ap (syntaxes_at trees) (sym q)))
    (listed_is a c before v (statements_of no_lambda s (state_of a) (syntaxes_at trees ids)) h m)

pub lists_after : (a b c : StateRec) (x : Result State ElabFault) (f : State → Result Done ElabFault) (r : Result (Vec TNodeId Global) ElabFault)
    → Changed a b x → Lists b c r (f (state_of b)) → Lists a c r (and_then x f)
lists_after a b c x f (Ok v) m n = record {
  grown = grown_trans a b c m.grown n.grown;
  within = n.within;
  is = ap
      (λ (z : Result State ElabFault). and_then z f) m.is ∙ n.is;
}
lists_after a b c x f (Err e) m n = faults_same e (f (state_of b)) (and_then x f) (ap (λ (z : Result State ElabFault). and_then z f) m.is) n

pub statements_unnamed : (s : List Lexeme) (st : State) (x : Written) (e : ElabFault) → Faults e (with_parameters s st x.params)
    → Faults e (body_statements s st x)
statements_unnamed s st x e m = faults_in (λ (z : Result State ElabFault). and_then z (λ (y : State). statements_of no_lambda s y x.body)) e
    (with_parameters s st x.params) (λ d. refl) m

-- With its end, as one block

pub closed_is : (b c : StateRec) (mid : List Tree) (ids next : List TNodeId) (r : TNodeId) (at : At) (ret : Typ)
    → AddsAll (made b) mid next (followed_by (trees_at (made b) ids) (end_of (state_of b).ctx ret at)) → Adds mid (made c) r (block at (trees_at mid next))
    → state_of c ≡ state_of b → OneDone b c r (done (one (block at (followed_by (trees_at (made b) ids) (end_of (state_of b).ctx ret at)))) (state_of b))
closed_is b c mid ids next r at ret m n q = record {
  grown = grown_by b c (grows_trans m.grows n.grows) (ap (λ (z : State). z.ctx.labels) q);
  within = n.within;
  is = ap (λ (z : Tree). done (one z) (state_of b)) (sym (n.is ∙ ap (block at) m.are)) ∙ ap (done (one (tree_at (made c) r))) (sym q);
}

pub inside_done : (s : List Lexeme) (a b c : StateRec) (v : Vec TNodeId Global) (r : TNodeId) (x : Written) (ret : Typ) (at : At)
    → AllListed a b v (body_statements s (state_of a) x) → at ≡ x.body_at
    → OneDone b c r (done (one (block at (followed_by (trees_at (made b) v.items) (end_of (state_of b).ctx ret at)))) (state_of b))
    → OneDone a c r (body_inside s (state_of a) x ret)
inside_done s a b c v r x ret at h q m =
    one_after a b c (body_statements s (state_of a) x) (record { trees = trees_at (made b) v.items; state = state_of b }) (ended x ret) r h.grown h.is
    (subst (λ (z : At). OneDone b c r (done (one (block z (followed_by (trees_at (made b) v.items) (end_of (state_of b).ctx ret z)))) (state_of b))) q m)

pub inside_refused : (s : List Lexeme) (st : State) (x : Written) (ret : Typ) (e : ElabFault) → Faults e (body_statements s st x)
    → Faults e (body_inside s st x ret)
inside_refused s st x ret e m = faults_in (λ (z : Result Done ElabFault). and_then z (ended x ret)) e (body_statements s st x) (λ d. refl) m

-- What is kept of it

pub same_trees : (old new : List Tree) → new ≡ old → Grows old new
same_trees old new e = subst (λ (z : List Tree). Grows old z) (sym e) (grows_refl old)

-- what is known round a lambda stays
left_grown : (a d : StateRec) (st : State) (around : Round) → around ≡ round_lambda (state_of a) → state_of d ≡ left_by around st → made d ≡ made a → Grown a d
left_grown a d st around r s t = grown_by a d (same_trees (made a) (made d) t) (ap (λ (z : State). z.ctx.labels) s ∙ ap (λ (z : Round). z.labels) r)

nest_one : (x : Result Done ElabFault) (g : Done → Result Done ElabFault) (f : Done → Result State ElabFault)
    → and_then (and_then x g) f ≡ and_then x (λ (d : Done). and_then (g d) f)
nest_one (Ok d) g f = refl
nest_one (Err e) g f = refl

lambda_steps : (s : List Lexeme) (st : State) (x : Written) (ret : Typ) (sig : Signature) → is_complete st.ctx (held ret) ≡ true
    → closure_sized st x sig ≡ Ok true → lambda_with s st x ret sig ≡ and_then (body_inside s (closure_entered st x (known ret) ret sig) x ret) (kept st x)
lambda_steps s st x ret sig c z =
    let inner : State = closure_entered st x (known ret) ret sig in
    let follow : Result State ElabFault = and_then (body_statements s inner x) (λ (d : Done). and_then (ended x ret d) (kept st x)) in
    ap (λ (b : Bool). and_then (check x.at Incomplete b) (λ y. and_then (closure_sized st x sig) (λ w. follow))) c
    ∙ ap (λ (r : Result Bool ElabFault). and_then r (λ w. follow)) z
    ∙ sym (nest_one (body_statements s inner x) (ended x ret) (kept st x))

pub lambda_incomplete : (s : List Lexeme) (st : State) (x : Written) (ret : Typ) (sig : Signature) → is_complete st.ctx (held ret) ≡ false
    → lambda_with s st x ret sig ≡ Err (Ill x.at Incomplete)
lambda_incomplete s st x ret sig c = ap (λ (z : Bool). and_then (check x.at Incomplete z) (λ y. and_then (closure_sized st x sig)
    (λ w. and_then (body_statements s (closure_entered st x (known ret) ret sig) x) (λ (d : Done). and_then (ended x ret d) (kept st x))))) c

pub lambda_oversized : (s : List Lexeme) (st : State) (x : Written) (ret : Typ) (sig : Signature) (e : ElabFault) → is_complete st.ctx (held ret) ≡ true
    → Faults e (closure_sized st x sig) → Faults e (lambda_with s st x ret sig)
lambda_oversized s st x ret sig e c m =
    let follow : Result State ElabFault = and_then (body_statements s (closure_entered st x (known ret) ret sig) x)
    (λ (d : Done). and_then (ended x ret d) (kept st x)) in
    faults_same e (and_then (closure_sized st x sig) (λ w. follow)) (lambda_with s st x ret sig)
    (ap (λ (b : Bool). and_then (check x.at Incomplete b) (λ y. and_then (closure_sized st x sig) (λ w. follow))) c)
    (faults_in (λ (r : Result Bool ElabFault). and_then r (λ w. follow)) e (closure_sized st x sig) (λ d. refl) m)

pub lambda_refused : (s : List Lexeme) (st inner : State) (x : Written) (ret : Typ) (sig : Signature) (rs : Returns) (e : ElabFault)
    → is_complete st.ctx (held ret) ≡ true → closure_sized st x sig ≡ Ok true → inner ≡ closure_entered st x rs ret sig → rs ≡ known ret
    → Faults e (body_inside s inner x ret)
    → Faults e (lambda_with s st x ret sig)
lambda_refused s st inner x ret sig rs e c z i k m =
    faults_same e (and_then (body_inside s inner x ret) (kept st x)) (lambda_with s st x ret sig)
    (lambda_steps s st x ret sig c z ∙ ap (λ (y : State). and_then (body_inside s y x ret) (kept st x))
    (sym (i ∙ ap (λ (z : Returns). closure_entered st x z ret sig) k)))
    (faults_in (λ (z : Result Done ElabFault). and_then z (kept st x)) e (body_inside s inner x ret) (λ d. refl) m)

kept_is : (a c d : StateRec) (x : Written) (place : ℕ) (around : Round) (t tree : Tree) (frame : List Typ) → around ≡ round_lambda (state_of a)
    → state_of d ≡ left_by around (state_of c) → tree ≡ t → frame ≡ (state_of c).work.frame → place ≡ length (state_of a).ctx.funcs
    → kept (state_of a) x (record { trees = one t; state = state_of c }) ≡ body_kept (state_of d) x.at place tree frame
kept_is a c d x place around t tree frame r s q f n =
    ap (λ (z : ℕ). body_made (round_lambda (state_of a)) x.at z t (state_of c)) (sym n)
    ∙ ap (λ (z : Round). body_kept (left_by z (state_of c)) x.at place t (state_of c).work.frame) (sym r)
    ∙ ap (λ (z : State). body_kept z x.at place t (state_of c).work.frame) (sym s)
    ∙ ap (λ (z : Tree). body_kept (state_of d) x.at place z (state_of c).work.frame) (sym q)
    ∙ ap (λ (z : List Typ). body_kept (state_of d) x.at place tree z) (sym f)

pub lambda_done : (s : List Lexeme) (a b c d e : StateRec) (x : Written) (ret : Typ) (sig : Signature) (rs : Returns) (place : ℕ) (around : Round)
    (id : TNodeId) (tree : Tree) (frame : List Typ) (r : Result (Unit {0}) ElabFault) →
    is_complete (state_of a).ctx (held ret) ≡ true → closure_sized (state_of a) x sig ≡ Ok true → state_of b ≡ closure_entered (state_of a) x rs ret sig
    → rs ≡ known ret → around ≡ round_lambda (state_of a) → OneDone b c id (body_inside s (state_of b) x ret) → state_of d ≡ left_by around (state_of c) → made d ≡ made a
    → tree ≡ tree_at (made c) id → frame ≡ (state_of c).work.frame → place ≡ length (state_of a).ctx.funcs →
    Changes d e r (body_kept (state_of d) x.at place tree frame) → Changes a e r (lambda_with s (state_of a) x ret sig)
lambda_done s a b c d e x ret sig rs place around id tree frame r k g i w ro m l t q f p n =
    let v : Done = record { trees = one (tree_at (made c) id); state = state_of c } in
    let step : Changes d e r (kept (state_of a) x v) =
    subst (λ (z : Result State ElabFault). Changes d e r z) (sym (kept_is a c d x place around (tree_at (made c) id) tree frame ro l q f p)) n in
    subst (λ (z : Result State ElabFault). Changes a e r z)
    (sym (lambda_steps s (state_of a) x ret sig k g ∙ ap (λ (z : State). and_then (body_inside s z x ret) (kept (state_of a) x))
    (sym (i ∙ ap (λ (z : Returns). closure_entered (state_of a) x z ret sig) w))))
    (changes_after a d e (body_inside s (state_of b) x ret) v (kept (state_of a) x) r (left_grown a d (state_of c) around ro l t) m.is step)

-- What is read of it for its result

pub read_done : (s : List Lexeme) (a b c d : StateRec) (x : Written) (sig : Signature) (rs rest : Returns) (ret : Typ) (around : Round) (v : Vec TNodeId Global)
    (t : Ty) →
    closure_sized (state_of a) x sig ≡ Ok true → state_of b ≡ closure_entered (state_of a) x rs ret sig → rs ≡ deduced None → ret ≡ plain void → around ≡ round_lambda (state_of a)
    → AllListed b c v (body_statements s (state_of b) x) → state_of d ≡ left_by around (state_of c) → made d ≡ made a → rest ≡ (state_of c).ctx.returns
    → typ_of t ≡ result_in rest → DeducedAt a d t (result_read s (state_of a) x sig)
read_done s a b c d x sig rs rest ret around v t g i w y ro m l tr q e =
    let entry : closure_entered (state_of a) x (deduced None) (plain void) sig ≡ state_of b =
    sym (i ∙ ap (λ (z : Returns). closure_entered (state_of a) x z ret sig) w ∙ ap (λ (z : Typ). closure_entered (state_of a) x (deduced None) z sig) y) in
    record {
      grown = left_grown a d (state_of c) around ro l tr;
      is =
          ap (λ (z : Result Bool ElabFault). and_then z (λ w. and_then (body_statements s (closure_entered (state_of a) x (deduced None) (plain void) sig) x)
          (λ (d : Done). Ok (record { typ = result_in d.state.ctx.returns; state = left_by (round_lambda (state_of a)) d.state })))) g
          ∙ ap (λ (z : State). and_then (body_statements s z x)
          (λ (d : Done). Ok (record { typ = result_in d.state.ctx.returns; state = left_by (round_lambda (state_of a)) d.state }))) entry
          ∙ ap (λ (z : Result Done ElabFault). and_then z
          (λ (d : Done). Ok (record { typ = result_in d.state.ctx.returns; state = left_by (round_lambda (state_of a)) d.state }))) m.is
          ∙ ap (λ (z : Returns). Ok (record { typ = result_in z; state = left_by (round_lambda (state_of a)) (state_of c) })) (sym q)
          ∙ ap (λ (z : Typ). Ok (record { typ = z; state = left_by (round_lambda (state_of a)) (state_of c) })) (sym e)
          ∙ ap (λ (z : Round). Ok (record { typ = typ_of t; state = left_by z (state_of c) })) (sym ro)
          ∙ ap (λ (z : State). Ok (record { typ = typ_of t; state = z })) (sym l);
    }

pub read_refused : (s : List Lexeme) (st inner : State) (x : Written) (sig : Signature) (rs : Returns) (ret : Typ) (e : ElabFault)
    → closure_sized st x sig ≡ Ok true → inner ≡ closure_entered st x rs ret sig → rs ≡ deduced None → ret ≡ plain void
    → Faults e (body_statements s inner x) → Faults e (result_read s st x sig)
read_refused s st inner x sig rs ret e g i w y m =
    let entry : closure_entered st x (deduced None) (plain void) sig ≡ inner =
    sym (i ∙ ap (λ (z : Returns). closure_entered st x z ret sig) w ∙ ap (λ (z : Typ). closure_entered st x (deduced None) z sig) y) in
    let follow : Done → Result Deduced ElabFault = λ (d : Done). Ok
    (record { typ = result_in d.state.ctx.returns; state = left_by (round_lambda st) d.state }) in
    faults_same e (and_then (body_statements s inner x) follow) (result_read s st x sig)
    (ap (λ (z : Result Bool ElabFault). and_then z (λ w. and_then (body_statements s (closure_entered st x (deduced None) (plain void) sig) x) follow)) g
    ∙ ap (λ (z : State). and_then (body_statements s z x) follow) entry)
    (faults_in (λ (z : Result Done ElabFault). and_then z follow) e (body_statements s inner x) (λ d. refl) m)

pub read_oversized : (s : List Lexeme) (st : State) (x : Written) (sig : Signature) (e : ElabFault) → Faults e (closure_sized st x sig)
    → Faults e (result_read s st x sig)
read_oversized s st x sig e m = faults_in (λ (z : Result Bool ElabFault). and_then z
    (λ w. and_then (body_statements s (closure_entered st x (deduced None) (plain void) sig) x)
    (λ (d : Done). Ok (record { typ = result_in d.state.ctx.returns; state = left_by (round_lambda st) d.state })))) e (closure_sized st x sig) (λ d. refl) m
