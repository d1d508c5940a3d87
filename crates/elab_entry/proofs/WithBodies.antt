-- Bodies of functions, step by step.
use Rattle.std.proofs.Common.{◌≡◌, ℕ, Bool, true, false, List, [], refl, sym, ap, ◌∙◌, subst, Option, Result, Ok, Err}
use Rattle.cpp_types.specs.Typ.{Typ}
use Rattle.cpp_types.specs.Class.{held}
use Rattle.cpp_types.specs.declared.classes.At.{At}
use Rattle.elab_stmt.specs.cpp_lex.Tokens.{Lexeme}
use Rattle.elab_stmt.specs.cpp_ast.Trees as syntax
use Rattle.elab_stmt.specs.cpp_ast.declared.arena.At.{At as SyntaxAt}
use Rattle.elab_stmt.specs.cpp_ast.declared.kinds.NodeKind.{NodeKind}
use Rattle.elab_stmt.specs.cpp_tree.declared.faults.ElabFault.{ElabFault}
use Rattle.elab_stmt.specs.cpp_tree.declared.faults.ElabFault.TheVariants.{Ill}
use Rattle.elab_stmt.specs.cpp_tree.declared.faults.IllRule.TheVariants.{Incomplete}
use Rattle.elab_stmt.specs.cpp_tree.declared.kinds.TKind.TheVariants as forms
use Rattle.elab_stmt.specs.cpp_tree.declared.arena.TNodeId.{TNodeId}
use Rattle.elab_stmt.specs.cpp_tree.Trees.{Tree, one}
use Rattle.elab_stmt.specs.cpp_tree.Arena.{tree_at, trees_at, Grows, Adds}
use Rattle.elab_stmt.specs.elab_ctx.Steps.{and_then, check, at_of}
use Rattle.elab_stmt.specs.elab_ctx.Says.{Faults}
use Rattle.elab_stmt.proofs.elab_ctx.Looks.{grows_refl}
use Rattle.elab_stmt.proofs.elab_ctx.Making.{faults_in, faults_same}
use Rattle.elab_stmt.specs.elab_rules.Objects.{followed_by}
use Rattle.elab_stmt.specs.elab_rules.Initialising.{signature_result}
use Rattle.elab_stmt.specs.elab_rules.Operators.{is_complete}
use Rattle.elab_stmt.specs.elab_rules.Statements.{State, Done, done, Lambdas, statements_of, statement, block, the_tree}
use Rattle.elab_stmt.specs.elab_rules.Types.{Parameter}
use Rattle.elab_stmt.specs.elab_rules.Functions.{Header, with_parameters, end_of}
use Rattle.elab_stmt.specs.elab_scopes.declared.state.State.{State as StateRec}
use Rattle.elab_stmt.specs.elab_scopes.States.{state_of, made, Grown}
use Rattle.elab_stmt.specs.elab_scopes.Says.{Changed, Changes, OneDone, AllDone, behind}
use Rattle.elab_stmt.proofs.elab_scopes.Standing.{grown_trans, grown_by, changes_after, one_after}
use Rattle.elab_stmt.proofs.elab_scopes.Behind.{behind_none}
use Rattle.elab_entry.specs.Round.{Round, round_function, left_by}
use Rattle.elab_entry.specs.Says.{Listed}
use Rattle.elab_entry.specs.Bodies.{entered, statements_in, body_kept, body_made, body_inside, function_body}

-- A block with its end

-- what is made of the statements of a body
abbrev pub ended : Typ → SyntaxAt → Done → Result Done ElabFault
ended ret p d = done (one (statement (forms.Block false) (at_of p) (followed_by d.trees (end_of d.state.ctx ret (at_of p))))) d.state

-- the statements stand in a list
pub listed_is : (lams : Lambdas) (s : List Lexeme) (a b : StateRec) (tree : syntax.Tree) (kind : NodeKind) (p : SyntaxAt) (token : Option ℕ)
    (kids those : syntax.Trees) (before ids : List TNodeId) → tree ≡ syntax.node kind p token kids → those ≡ kids → before ≡ []
    → AllDone a b before ids (statements_of lams s (state_of a) those) → Listed a b ids (statements_in lams s (state_of a) tree)
listed_is lams s a b tree kind p token kids those before ids t k e h = record {
  grown = h.grown;
  within = h.within;
  is = ap (statements_in lams s (state_of a)) t ∙ ap (statements_of lams s (state_of a)) (sym k) ∙ sym (behind_none (statements_of lams s (state_of a) those))
      ∙ ap (λ (z : List TNodeId). behind (trees_at (made a) z) (statements_of lams s (state_of a) those)) (sym e) ∙ h.is;
}

pub listed_fault : (lams : Lambdas) (s : List Lexeme) (st : State) (tree : syntax.Tree) (kind : NodeKind) (p : SyntaxAt) (token : Option ℕ)
    (kids those : syntax.Trees) (e : ElabFault) → tree ≡ syntax.node kind p token kids → those ≡ kids → Faults e (statements_of lams s st those)
    → Faults e (statements_in lams s st tree)
listed_fault lams s st tree kind p token kids those e t k h =
    faults_same e (statements_of lams s st those) (statements_in lams s st tree) (ap (statements_in lams s st) t ∙ ap (statements_of lams s st) (sym k)) h

statements_ended : (b c e : StateRec) (ids : List TNodeId) (r : TNodeId) (ret t : Typ) (p : SyntaxAt) (x : Result Done ElabFault) → Listed b c ids x → t ≡ ret
    → Adds (made c) (made e) r (block (at_of p) (followed_by (trees_at (made c) ids) (end_of (state_of c).ctx t (at_of p)))) → state_of e ≡ state_of c
    → OneDone b e r (and_then x (ended ret p))
statements_ended b c e ids r ret t p x h q n w =
    let g : Grown c e = grown_by c e n.grows (ap (λ (z : State). z.ctx.labels) w) in
    let tree : tree_at (made e) r ≡ block (at_of p) (followed_by (trees_at (made c) ids) (end_of (state_of c).ctx ret (at_of p))) = n.is
    ∙ ap (λ (z : Typ). block (at_of p) (followed_by (trees_at (made c) ids) (end_of (state_of c).ctx z (at_of p)))) q in
    record {
      grown = grown_trans b c e h.grown g;
      within = n.within;
      is = ap (λ (z : Result Done ElabFault). and_then z (ended ret p)) h.is ∙ ap (λ (z : Tree). done (one z) (state_of c)) (sym tree)
          ∙ ap (done (one (tree_at (made e) r))) (sym w);
    }

pub statements_refused : (ret : Typ) (p : SyntaxAt) (e : ElabFault) (x : Result Done ElabFault) → Faults e x → Faults e (and_then x (ended ret p))
statements_refused ret p e x h = faults_in (λ (z : Result Done ElabFault). and_then z (ended ret p)) e x (λ d. refl) h

-- A body in the scope of its parameters

-- the parameters, then the statements with their end
inside_steps : (lams : Lambdas) (s : List Lexeme) (st : State) (h : Header) (tree : syntax.Tree) (kind : NodeKind) (p : SyntaxAt) (token : Option ℕ)
    (kids : syntax.Trees) → tree ≡ syntax.node kind p token kids
    → body_inside lams s st h tree ≡ and_then (with_parameters s st h.params)
    (λ (e : State). and_then (statements_in lams s e tree) (ended (signature_result h.signature) p))
inside_steps lams s st h tree kind p token kids e = ap (body_inside lams s st h) e
    ∙ ap (λ (z : syntax.Tree). and_then (with_parameters s st h.params)
    (λ (x : State). and_then (statements_in lams s x z) (ended (signature_result h.signature) p))) (sym e)

pub inside_done : (lams : Lambdas) (s : List Lexeme) (a b c e : StateRec) (h : Header) (tree : syntax.Tree) (kind : NodeKind) (p : SyntaxAt) (token : Option ℕ)
    (kids : syntax.Trees) (ps : List Parameter) (ids : List TNodeId) (at : At) (t : Typ) (r : TNodeId) → tree ≡ syntax.node kind p token kids → ps ≡ h.params
    → Changed a b (with_parameters s (state_of a) ps) → Listed b c ids (statements_in lams s (state_of b) tree) → t ≡ signature_result h.signature
    → at ≡ at_of p → Adds (made c) (made e) r (block at (followed_by (trees_at (made c) ids) (end_of (state_of c).ctx t at))) → state_of e ≡ state_of c
    → OneDone a e r (body_inside lams s (state_of a) h tree)
inside_done lams s a b c e h tree kind p token kids ps ids at t r w q m n k l o y =
    let f : State → Result Done ElabFault = λ (x : State). and_then (statements_in lams s x tree) (ended (signature_result h.signature) p) in
    let is : with_parameters s (state_of a) h.params ≡ Ok (state_of b) = ap (with_parameters s (state_of a)) (sym q) ∙ m.is in
    let add : Adds (made c) (made e) r (block (at_of p) (followed_by (trees_at (made c) ids) (end_of (state_of c).ctx t (at_of p)))) =
    subst (λ (z : At). Adds (made c) (made e) r (block z (followed_by (trees_at (made c) ids) (end_of (state_of c).ctx t z)))) l o in
    subst (λ (z : Result Done ElabFault). OneDone a e r z) (sym (inside_steps lams s (state_of a) h tree kind p token kids w))
    (one_after a b e (with_parameters s (state_of a) h.params) (state_of b) f r m.grown is
    (statements_ended b c e ids r (signature_result h.signature) t p (statements_in lams s (state_of b) tree) n k add y))

pub inside_unnamed : (lams : Lambdas) (s : List Lexeme) (st : State) (h : Header) (tree : syntax.Tree) (ps : List Parameter) (e : ElabFault) → ps ≡ h.params
    → Faults e (with_parameters s st ps) → Faults e (body_inside lams s st h tree)
inside_unnamed lams s st h (syntax.node kind p token kids) ps e q m =
    let f : State → Result Done ElabFault = λ (x : State). and_then (statements_of lams s x kids) (ended (signature_result h.signature) p) in
    faults_in (λ (z : Result State ElabFault). and_then z f) e (with_parameters s st h.params) (λ d. refl)
    (subst (λ (z : List Parameter). Faults e (with_parameters s st z)) q m)

pub inside_refused : (lams : Lambdas) (s : List Lexeme) (a b : StateRec) (h : Header) (tree : syntax.Tree) (ps : List Parameter) (e : ElabFault) → ps ≡ h.params
    → Changed a b (with_parameters s (state_of a) ps) → Faults e (statements_in lams s (state_of b) tree) → Faults e (body_inside lams s (state_of a) h tree)
inside_refused lams s a b h (syntax.node kind p token kids) ps e q m n =
    let f : State → Result Done ElabFault = λ (x : State). and_then (statements_of lams s x kids) (ended (signature_result h.signature) p) in
    let is : with_parameters s (state_of a) h.params ≡ Ok (state_of b) = ap (with_parameters s (state_of a)) (sym q) ∙ m.is in
    faults_same e (f (state_of b)) (body_inside lams s (state_of a) h (syntax.node kind p token kids)) (ap (λ (z : Result State ElabFault). and_then z f) is)
    (statements_refused (signature_result h.signature) p e (statements_of lams s (state_of b) kids) n)

-- A function with its body

nest_inner : {B : Type 0} (y : Result B ElabFault) (g : B → Result Done ElabFault) (k : Done → Result State ElabFault)
    → and_then (and_then y g) k ≡ and_then y (λ (b : B). and_then (g b) k)
nest_inner (Ok b) g k = refl
nest_inner (Err e) g k = refl

nest : {A B : Type 0} (x : Result A ElabFault) (y : A → Result B ElabFault) (g : B → Result Done ElabFault) (k : Done → Result State ElabFault)
    → and_then (and_then x (λ (a : A). and_then (y a) g)) k ≡ and_then x (λ (a : A). and_then (y a) (λ (b : B). and_then (g b) k))
nest (Ok a) y g k = nest_inner (y a) g k
nest (Err e) y g k = refl

-- what follows what stands in the body
abbrev pub kept : State → Header → ℕ → Done → Result State ElabFault
kept st h place d = body_made (round_function st) h.at place (the_tree h.at d.trees) d.state

function_steps : (lams : Lambdas) (s : List Lexeme) (st : State) (h : Header) (this : Option Typ) (place : ℕ) (tree : syntax.Tree)
    → is_complete st.ctx (held (signature_result h.signature)) ≡ true
    → function_body lams s st h this place tree ≡ and_then (body_inside lams s (entered st (signature_result h.signature) this h.class) h tree)
    (kept st h place)
function_steps lams s st h this place (syntax.node kind p token kids) c =
    let inside : State = entered st (signature_result h.signature) this h.class in
    ap (λ (z : Bool). and_then (check h.at Incomplete z)
    (λ x. and_then (with_parameters s inside h.params)
    (λ (e : State). and_then (statements_of lams s e kids) (λ (d : Done). and_then (ended (signature_result h.signature) p d) (kept st h place))))) c
    ∙ sym (nest (with_parameters s inside h.params) (λ (e : State). statements_of lams s e kids) (ended (signature_result h.signature) p) (kept st h place))

pub function_incomplete : (lams : Lambdas) (s : List Lexeme) (st : State) (h : Header) (this : Option Typ) (place : ℕ) (tree : syntax.Tree)
    → is_complete st.ctx (held (signature_result h.signature)) ≡ false → function_body lams s st h this place tree ≡ Err (Ill h.at Incomplete)
function_incomplete lams s st h this place (syntax.node kind p token kids) c =
    ap (λ (z : Bool). and_then (check h.at Incomplete z)
    (λ x. and_then (with_parameters s (entered st (signature_result h.signature) this h.class) h.params)
    (λ (e : State). and_then (statements_of lams s e kids) (λ (d : Done). and_then (ended (signature_result h.signature) p d) (kept st h place))))) c

pub function_refused : (lams : Lambdas) (s : List Lexeme) (st in_it : State) (h : Header) (this : Option Typ) (place : ℕ) (tree : syntax.Tree) (e : ElabFault)
    → is_complete st.ctx (held (signature_result h.signature)) ≡ true → in_it ≡ entered st (signature_result h.signature) this h.class
    → Faults e (body_inside lams s in_it h tree) → Faults e (function_body lams s st h this place tree)
function_refused lams s st in_it h this place tree e c i m =
    faults_same e (and_then (body_inside lams s in_it h tree) (kept st h place)) (function_body lams s st h this place tree)
    (function_steps lams s st h this place tree c ∙ ap (λ (z : State). and_then (body_inside lams s z h tree) (kept st h place)) (sym i))
    (faults_in (λ (z : Result Done ElabFault). and_then z (kept st h place)) e (body_inside lams s in_it h tree) (λ d. refl) m)

pub changes_fail : (a c : StateRec) (r : Result (Unit {0}) ElabFault) (f : ElabFault) (x : Result State ElabFault) → r ≡ Err f → Faults f x → Changes a c r x
changes_fail a c r f x e h = subst (λ (z : Result (Unit {0}) ElabFault). Changes a c z x) (sym e) h

same_trees : (old new : List Tree) → new ≡ old → Grows old new
same_trees old new e = subst (λ (z : List Tree). Grows old z) (sym e) (grows_refl old)

-- what is known round a function stays
left_grown : (a d : StateRec) (st : State) (around : Round) → around ≡ round_function (state_of a) → state_of d ≡ left_by around st → made d ≡ made a
    → Grown a d
left_grown a d st around r s t = grown_by a d (same_trees (made a) (made d) t) (ap (λ (z : State). z.ctx.labels) s ∙ ap (λ (z : Round). z.labels) r)

kept_is : (a c d : StateRec) (h : Header) (place : ℕ) (around : Round) (t tree : Tree) (frame : List Typ) → around ≡ round_function (state_of a)
    → state_of d ≡ left_by around (state_of c) → tree ≡ t → frame ≡ (state_of c).work.frame
    → kept (state_of a) h place (record { trees = one t; state = state_of c }) ≡ body_kept (state_of d) h.at place tree frame
kept_is a c d h place around t tree frame r s q f =
    ap (λ (z : Round). body_kept (left_by z (state_of c)) h.at place t (state_of c).work.frame) (sym r)
    ∙ ap (λ (z : State). body_kept z h.at place t (state_of c).work.frame) (sym s)
    ∙ ap (λ (z : Tree). body_kept (state_of d) h.at place z (state_of c).work.frame) (sym q)
    ∙ ap (λ (z : List Typ). body_kept (state_of d) h.at place tree z) (sym f)

pub function_done : (lams : Lambdas) (s : List Lexeme) (a b c d e : StateRec) (h : Header) (this : Option Typ) (place : ℕ) (syn : syntax.Tree) (around : Round)
    (id : TNodeId) (tree : Tree) (frame : List Typ) (r : Result (Unit {0}) ElabFault)
    → is_complete (state_of a).ctx (held (signature_result h.signature)) ≡ true → state_of b ≡ entered (state_of a) (signature_result h.signature) this h.class
    → around ≡ round_function (state_of a) → OneDone b c id (body_inside lams s (state_of b) h syn) → state_of d ≡ left_by around (state_of c) → made d ≡ made a
    → tree ≡ tree_at (made c) id → frame ≡ (state_of c).work.frame → Changes d e r (body_kept (state_of d) h.at place tree frame)
    → Changes a e r (function_body lams s (state_of a) h this place syn)
function_done lams s a b c d e h this place syn around id tree frame r k i ro m l t q f n =
    let v : Done = record { trees = one (tree_at (made c) id); state = state_of c } in
    let step : Changes d e r (kept (state_of a) h place v) =
    subst (λ (z : Result State ElabFault). Changes d e r z) (sym (kept_is a c d h place around (tree_at (made c) id) tree frame ro l q f)) n in
    subst (λ (z : Result State ElabFault). Changes a e r z)
    (sym (function_steps lams s (state_of a) h this place syn k
    ∙ ap (λ (z : State). and_then (body_inside lams s z h syn) (kept (state_of a) h place)) (sym i)))
    (changes_after a d e (body_inside lams s (state_of b) h syn) v (kept (state_of a) h place) r (left_grown a d (state_of c) around ro l t) m.is step)
