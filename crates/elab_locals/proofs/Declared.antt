-- Declarators of a declaration, one behind the other.
use Rattle.std.proofs.Common.{◌≡◌, ◌≢◌, ◌<◌, ◌+◌, ◌-◌, take, ◌++◌, ◌∷◌, ℕ, Bool, true, false, List, [], length, drop, Option, None, option_map, Result, Ok, Err}
use Rattle.std.proofs.Common.{IfOk, Vec, refl, sym, ap, ◌∙◌, subst, append-nil, arith}
use Rattle.std.specs.declared.alloc.AllocError.{AllocError}
use Rattle.std.specs.declared.alloc.Global.{Global as Alloc}
use Rattle.elab_scopes.specs.cpp_lex.Tokens.{Lexeme}
use Rattle.elab_scopes.specs.cpp_types.Typ.{Typ, typ_of}
use Rattle.elab_scopes.specs.cpp_types.declared.types.Ty.{Ty}
use Rattle.elab_scopes.specs.cpp_types.declared.classes.At.{At}
use Rattle.elab_scopes.specs.cpp_ast.declared.arena.At.{At as SyntaxAt}
use Rattle.elab_scopes.specs.cpp_ast.declared.arena.NodeId.{NodeId}
use Rattle.elab_scopes.specs.cpp_ast.declared.kinds.NodeKind.{NodeKind}
use Rattle.elab_scopes.specs.cpp_ast.declared.kinds.NodeKind.TheVariants as k
use Rattle.elab_scopes.specs.cpp_ast.Orders.{are_below}
use Rattle.elab_scopes.specs.cpp_ast.Trees as syntax
use Rattle.elab_scopes.specs.cpp_tree.declared.faults.ElabFault.{ElabFault}
use Rattle.elab_scopes.specs.cpp_tree.declared.faults.ElabFault.TheVariants.{Ill}
use Rattle.elab_scopes.specs.cpp_tree.declared.faults.IllRule.TheVariants.{BadDeclaration, OutOfProfile}
use Rattle.elab_scopes.specs.cpp_tree.declared.arena.TNode.{TNode}
use Rattle.elab_scopes.specs.cpp_tree.declared.arena.TNodeId.{TNodeId}
use Rattle.elab_scopes.specs.cpp_tree.Trees.{Tree, Trees, none, one}
use Rattle.elab_scopes.specs.cpp_tree.Arena.{trees_of, tree_at, trees_at, Grows}
use Rattle.elab_scopes.specs.elab_ctx.Ctx.{Ctx, ctx_of}
use Rattle.elab_scopes.specs.elab_ctx.declared.env.Work.{Work as WorkRec}
use Rattle.elab_scopes.specs.elab_expr.Unmoved.{Unmoved}
use Rattle.elab_scopes.specs.elab_ctx.Steps.{and_then, check, at_of}
use Rattle.elab_scopes.specs.elab_ctx.Says.{Faults, are_within}
use Rattle.elab_scopes.proofs.elab_ctx.Looks.{grows_refl}
use Rattle.elab_scopes.proofs.elab_ctx.Making.{faults_in, faults_same}
use Rattle.elab_scopes.proofs.elab_init.Listing.{trees_append, trees_grown, all_within_grown, within_both, within_one}
use Rattle.elab_scopes.specs.elab_rules.Objects.{followed_by}
use Rattle.elab_scopes.specs.elab_rules.Types.{Declared}
use Rattle.elab_scopes.specs.elab_rules.Expressions.{type_of_specifiers, declared_by}
use Rattle.elab_scopes.specs.elab_rules.Statements.{Lambdas, State, Done, Deduction, Declaring, done, variable, name_of, is_own_name, declared_more}
use Rattle.elab_scopes.specs.elab_rules.Statements.{past_declaration, may_be_skipped, block_declarator, block_declarators, block_declaration}
use Rattle.elab_scopes.proofs.elab_expr.Several.{rest_is, rest_from, below_rest}
use Rattle.elab_scopes.specs.elab_types.Syntax.{tree_at as syntax_at, trees_at as syntaxes_at}
use Rattle.elab_scopes.specs.declared.state.State.{State as StateRec}
use Rattle.elab_scopes.specs.States.{state_of, made, KeepsLabels, Grown}
use Rattle.elab_scopes.specs.Says.{AllDone, DoesAll, behind}
use Rattle.elab_scopes.proofs.Labelling.{unmoved_grown, unmoved_state}
use Rattle.elab_scopes.proofs.Standing.{grown_refl, grown_trans}
use Rattle.elab_locals.specs.Deducing.{VariableAt, declaring_of, DeclaringAt, Declares}
use Rattle.elab_locals.specs.Declarators.{past_ctx, declared_from, init_declarator, specified_by, AllDeclared}

-- behind a declaration, of which labels know
past_grown : (b c : StateRec) (t : Typ) (init : syntax.Trees) → made c ≡ made b → ctx_of c.env ≡ past_ctx t init (ctx_of b.env) → Grown b c
past_grown b c t init e q = record {
  trees = subst (λ (z : List Tree). Grows (made b) z) (sym e) (grows_refl (made b));
  labels = subst (λ (z : Ctx). KeepsLabels (ctx_of b.env).labels z.labels) (sym q)
      (record { typ = refl; extra = []; words = sym (append-nil (ctx_of b.env).labels.words) });
}

pub declared_made : (lams : Lambdas) (s : List Lexeme) (a b c : StateRec) (at : At) (d : Declared) (init : syntax.Trees) (before after : List TNodeId)
    (auto next : Option Ty) (r : TNodeId) (name : List ℕ) → are_within (length (made a)) before ≡ true → is_own_name d ≡ true → name ≡ name_of s d.name
    → VariableAt a b next r (variable lams s (state_of a) name d.typ at (option_map typ_of auto) init) → made c ≡ made b
    → ctx_of c.env ≡ past_ctx d.typ init (ctx_of b.env) → state_of c ≡ record (state_of b) { ctx = ctx_of c.env } → after ≡ before ++ r ∷ []
    → DeclaringAt a c after next (declared_from lams s at (declaring_of a before auto) d init)
declared_made lams s a b c at d init before after auto next r name w o n m e q st l =
    let from : Declaring = declaring_of a before auto in
    let past : Grown b c = past_grown b c d.typ init e q in
    let grown : Grown a c = grown_trans a b c m.grown past in
    let state : state_of c ≡ past_declaration d.typ init (state_of b) = st ∙ ap (λ (z : Ctx). record (state_of b) { ctx = z }) q in
    let kept : trees_at (made c) before ≡ trees_at (made a) before = trees_grown (made a) (made c) before grown.trees w in
    let last : tree_at (made c) r ≡ tree_at (made b) r = ap (λ (z : List Tree). tree_at z r) e in
    let all : trees_at (made c) after ≡ followed_by (trees_at (made a) before) (one (tree_at (made b) r)) = ap (trees_at (made c)) l
    ∙ trees_append (made c) before (r ∷ []) ∙ ap (λ (z : Trees). followed_by z (one (tree_at (made c) r))) kept
    ∙ ap (λ (z : Tree). followed_by (trees_at (made a) before) (one z)) last in
    record {
      grown = grown;
      within = subst (λ (z : List TNodeId). are_within (length (made c)) z ≡ true) (sym l)
          (within_both (length (made c)) before (r ∷ []) (all_within_grown (made a) (made c) before grown.trees w)
          (within_one (length (made c)) r (subst (λ (z : List Tree). r.0 < length z) (sym e) m.within)));
      is = ap (λ (z : Bool). and_then (check at BadDeclaration z)
          (λ y. and_then (variable lams s (state_of a) (name_of s d.name) d.typ at (option_map typ_of auto) init)
          (λ (x : Deduction). Ok (declared_more from d.typ init x)))) o
          ∙ ap (λ (z : List ℕ). and_then (variable lams s (state_of a) z d.typ at (option_map typ_of auto) init)
          (λ (x : Deduction). Ok (declared_more from d.typ init x))) (sym n)
          ∙ ap (λ (z : Result Deduction ElabFault). and_then z (λ (x : Deduction). Ok (declared_more from d.typ init x))) m.is
          ∙ ap (λ (z : State). Ok (record {
            trees = followed_by (trees_at (made a) before) (one (tree_at (made b) r));
            state = z;
            auto =
                option_map typ_of next;
          })) (sym state)
          ∙ ap (λ (z : Trees). Ok (record { trees = z; state = state_of c; auto = option_map typ_of next })) (sym all);
    }

pub declared_fails : (lams : Lambdas) (s : List Lexeme) (a : StateRec) (at : At) (d : Declared) (init : syntax.Trees) (before : List TNodeId) (auto : Option Ty)
    (name : List ℕ) (f : ElabFault) → is_own_name d ≡ true → name ≡ name_of s d.name
    → Faults f (variable lams s (state_of a) name d.typ at (option_map typ_of auto) init)
    → Faults f (declared_from lams s at (declaring_of a before auto) d init)
declared_fails lams s a at d init before auto name f o n h =
    let from : Declaring = declaring_of a before auto in
    faults_same f (and_then (variable lams s (state_of a) name d.typ at (option_map typ_of auto) init)
    (λ (x : Deduction). Ok (declared_more from d.typ init x))) _
    (ap (λ (z : Bool). and_then (check at BadDeclaration z)
    (λ y. and_then (variable lams s (state_of a) (name_of s d.name) d.typ at (option_map typ_of auto) init)
    (λ (x : Deduction). Ok (declared_more from d.typ init x)))) o
    ∙ ap (λ (z : List ℕ). and_then (variable lams s (state_of a) z d.typ at (option_map typ_of auto) init)
    (λ (x : Deduction). Ok (declared_more from d.typ init x))) (sym n))
    (faults_in (λ (z : Result Deduction ElabFault). and_then z (λ (x : Deduction). Ok (declared_more from d.typ init x))) f
    (variable lams s (state_of a) name d.typ at (option_map typ_of auto) init) (λ d. refl) h)

pub declares_fail : (a c : StateRec) (ids : List TNodeId) (auto : Option Ty) (r : Result (Unit {0}) ElabFault) (f : ElabFault) (x : Result Declaring ElabFault)
    → r ≡ Err f → Faults f x → Declares a c ids auto r x
declares_fail a c ids auto r f x e h = subst (λ (z : Result (Unit {0}) ElabFault). Declares a c ids auto z x) (sym e) h

-- one declarator
pub declarator_row : (lams : Lambdas) (s : List Lexeme) (t : Typ) (d : Declaring) (y : syntax.Tree) (kind : NodeKind) (p : SyntaxAt) (at : At)
    (token : Option ℕ) (us : syntax.Trees) (x : syntax.Tree) (init : syntax.Trees) → y ≡ syntax.node kind p token us → kind ≡ k.InitDeclarator
    → us ≡ syntax.more x init → at ≡ at_of p → block_declarator lams s t d y ≡ init_declarator lams s at t d x init
declarator_row lams s t d y kind p at token us x init e h f n =
    ap (block_declarator lams s t d) (e ∙ ap (λ (z : NodeKind). syntax.node z p token us) h ∙ ap (syntax.node k.InitDeclarator p token) f)
    ∙ ap (λ (z : At). init_declarator lams s z t d x init) (sym n)

pub declarator_none : (lams : Lambdas) (s : List Lexeme) (t : Typ) (d : Declaring) (y : syntax.Tree) (kind : NodeKind) (p : SyntaxAt) (at : At)
    (token : Option ℕ) (us : syntax.Trees) → y ≡ syntax.node kind p token us → kind ≡ k.InitDeclarator → us ≡ syntax.none → at ≡ at_of p
    → block_declarator lams s t d y ≡ Err (Ill at OutOfProfile)
declarator_none lams s t d y kind p at token us e h f n =
    ap (block_declarator lams s t d) (e ∙ ap (λ (z : NodeKind). syntax.node z p token us) h ∙ ap (syntax.node k.InitDeclarator p token) f)
    ∙ ap (λ (z : At). Err (Ill z OutOfProfile)) (sym n)

other_kind : (lams : Lambdas) (s : List Lexeme) (t : Typ) (d : Declaring) (kind : NodeKind) (p : SyntaxAt) (token : Option ℕ) (us : syntax.Trees)
    → kind ≢ k.InitDeclarator → block_declarator lams s t d (syntax.node kind p token us) ≡ Err (Ill (at_of p) OutOfProfile)
other_kind lams s t d k.InitDeclarator p token us h = absurd (h refl)
other_kind lams s t d kind p token us h = refl

pub declarator_other : (lams : Lambdas) (s : List Lexeme) (t : Typ) (d : Declaring) (y : syntax.Tree) (kind : NodeKind) (p : SyntaxAt) (at : At)
    (token : Option ℕ) (us : syntax.Trees) → y ≡ syntax.node kind p token us → kind ≢ k.InitDeclarator → at ≡ at_of p
    → block_declarator lams s t d y ≡ Err (Ill at OutOfProfile)
declarator_other lams s t d y kind p at token us e h n = ap (block_declarator lams s t d) e ∙ other_kind lams s t d kind p token us h
    ∙ ap (λ (z : At). Err (Ill z OutOfProfile)) (sym n)

pub declares_same : (a c : StateRec) (ids : List TNodeId) (auto : Option Ty) (r : Result (Unit {0}) ElabFault) (x y : Result Declaring ElabFault) → y ≡ x
    → Declares a c ids auto r x → Declares a c ids auto r y
declares_same a c ids auto r x y e m = subst (λ (z : Result Declaring ElabFault). Declares a c ids auto r z) (sym e) m

-- what was made for a type or a declarator is cut off again
unmoved_trees : (a : StateRec) (w : WorkRec) → Unmoved a.work w → trees_of w.nodes.items ≡ made a
unmoved_trees a w u = ap (λ (v : Vec TNode Alloc). trees_of v.items) u.nodes

pub unmoved_within : (a : StateRec) (w : WorkRec) (ids : List TNodeId) → Unmoved a.work w → are_within (length (made a)) ids ≡ true
    → are_within (length (trees_of w.nodes.items)) ids ≡ true
unmoved_within a w ids u h = subst (λ (z : List Tree). are_within (length z) ids ≡ true) (sym (unmoved_trees a w u)) h

unmoved_declaring : (a : StateRec) (w : WorkRec) (ids : List TNodeId) (auto : Option Ty) → Unmoved a.work w
    → declaring_of (record a { work = w }) ids auto ≡ declaring_of a ids auto
unmoved_declaring a w ids auto u =
    let from : Trees → State → Declaring = λ (ts : Trees) (st : State). record { trees = ts; state = st; auto = option_map typ_of auto } in
    ap (λ (z : List Tree). from (trees_at z ids) (state_of (record a { work = w }))) (unmoved_trees a w u)
    ∙ ap (from (trees_at (made a) ids)) (unmoved_state a w u)

declares_grown : (a b c : StateRec) (ids : List TNodeId) (auto : Option Ty) (r : Result (Unit {0}) ElabFault) (x : Result Declaring ElabFault) → Grown a b
    → Declares b c ids auto r x → Declares a c ids auto r x
declares_grown a b c ids auto (Ok u) x g m = record { grown = grown_trans a b c g m.grown; within = m.within; is = m.is }
declares_grown a b c ids auto (Err e) x g m = m

pub declarator_then : (lams : Lambdas) (s : List Lexeme) (a c : StateRec) (w : WorkRec) (at : At) (t : Typ) (before after : List TNodeId)
    (auto next : Option Ty) (x : syntax.Tree) (init : syntax.Trees) (found : Declared) (r : Result (Unit {0}) ElabFault)
    → declared_by s (ctx_of a.env) (state_of a).work at t x ≡ Ok found → Unmoved a.work w
    → Declares (record a { work = w }) c after next r (declared_from lams s at (declaring_of (record a { work = w }) before auto) found init)
    → Declares a c after next r (init_declarator lams s at t (declaring_of a before auto) x init)
declarator_then lams s a c w at t before after auto next x init found r e u m =
    declares_grown a (record a { work = w }) c after next r _ (unmoved_grown a w u)
    (declares_same (record a { work = w }) c after next r _ _ (ap (λ (z : Result Declared ElabFault). and_then z
    (λ (y : Declared). declared_from lams s at (declaring_of a before auto) y init)) e
    ∙ ap (λ (z : Declaring). declared_from lams s at z found init) (sym (unmoved_declaring a w before auto u))) m)

-- those of which `rest` are left, where the whole gives `x`
pub record DeclaredSoFar (a b : StateRec) (ids : List TNodeId) (rest x : Result Declaring ElabFault) : Type 0 where
  pub grown : Grown a b
  pub within : are_within (length (made b)) ids ≡ true
  pub is : x ≡ rest

pub declared_none : (a : StateRec) (ids : List TNodeId) (x : Result Declaring ElabFault) → are_within (length (made a)) ids ≡ true → DeclaredSoFar a a ids x x
declared_none a ids x w = record { grown = grown_refl a; within = w; is = refl }

pub declared_step : (a b c : StateRec) (ids next : List TNodeId) (auto : Option Ty) (rest x y : Result Declaring ElabFault)
    (f : Declaring → Result Declaring ElabFault) → DeclaredSoFar a b ids rest x → rest ≡ and_then y f → DeclaringAt b c next auto y
    → DeclaredSoFar a c next (f (declaring_of c next auto)) x
declared_step a b c ids next auto rest x y f m e d = record {
  grown = grown_trans a b c m.grown d.grown;
  within = d.within;
  is = m.is ∙ e ∙ ap
      (λ (z : Result Declaring ElabFault). and_then z f) d.is;
}

pub declared_fault : (a b : StateRec) (ids : List TNodeId) (rest x y : Result Declaring ElabFault) (f : Declaring → Result Declaring ElabFault) (e : ElabFault)
    → DeclaredSoFar a b ids rest x → rest ≡ and_then y f → Faults e y → Faults e x
declared_fault a b ids rest x y f e m h g = faults_same e (and_then y f) x (m.is ∙ h)
    (faults_in (λ (z : Result Declaring ElabFault). and_then z f) e y (λ d. refl) g)

pub declared_all : (a b : StateRec) (ids : List TNodeId) (auto : Option Ty) (rest x : Result Declaring ElabFault) → DeclaredSoFar a b ids rest x
    → rest ≡ Ok (declaring_of b ids auto) → AllDeclared a b ids x
declared_all a b ids auto rest x m e = record { auto = auto; declared = record { grown = m.grown; within = m.within; is = m.is ∙ e } }

-- behind those that stand in a list
behind_all : (ts us : Trees) (st : State) → behind ts (done us st) ≡ done (followed_by ts us) st
behind_all ts us st = refl

pub specified_made : (lams : Lambdas) (s : List Lexeme) (a c : StateRec) (x : syntax.Tree) (ds : syntax.Trees) (t : Typ)
    (before list after none_yet : List TNodeId) → are_within (length (made a)) before ≡ true → type_of_specifiers s (ctx_of a.env) (state_of a).work x ≡ Ok t
    → none_yet ≡ [] → AllDeclared a c list (block_declarators lams s t (declaring_of a none_yet None) ds) → after ≡ before ++ list
    → AllDone a c before after (specified_by lams s (state_of a) x ds)
specified_made lams s a c x ds t before list after none_yet w e n m l =
    let d = m.declared in
    let kept : trees_at (made c) before ≡ trees_at (made a) before = trees_grown (made a) (made c) before d.grown.trees w in
    let all : trees_at (made c) after ≡ followed_by (trees_at (made a) before) (trees_at (made c) list) = ap (trees_at (made c)) l
    ∙ trees_append (made c) before list ∙ ap (λ (z : Trees). followed_by z (trees_at (made c) list)) kept in
    let whole : specified_by lams s (state_of a) x ds ≡ done (trees_at (made c) list) (state_of c)
    = ap (λ (z : Result Typ ElabFault). and_then z (λ (u : Typ). and_then
    (block_declarators lams s u (record { trees = none; state = state_of a; auto = None }) ds) (λ (y : Declaring). done y.trees y.state))) e
    ∙ ap (λ (z : List TNodeId). and_then (block_declarators lams s t (declaring_of a z None) ds) (λ (y : Declaring). done y.trees y.state)) (sym n)
    ∙ ap (λ (z : Result Declaring ElabFault). and_then z (λ (y : Declaring). done y.trees y.state)) d.is in
    record {
      grown = d.grown;
      within = subst (λ (z : List TNodeId). are_within (length (made c)) z ≡ true) (sym l)
          (within_both (length (made c)) before list (all_within_grown (made a) (made c) before d.grown.trees w) d.within);
      is = ap (behind (trees_at (made a) before)) whole ∙ ap (λ (z : Trees). done z (state_of c)) (sym all);
    }

pub specified_fails : (lams : Lambdas) (s : List Lexeme) (a : StateRec) (x : syntax.Tree) (ds : syntax.Trees) (t : Typ) (none_yet : List TNodeId)
    (f : ElabFault) → type_of_specifiers s (ctx_of a.env) (state_of a).work x ≡ Ok t → none_yet ≡ []
    → Faults f (block_declarators lams s t (declaring_of a none_yet None) ds) → Faults f (specified_by lams s (state_of a) x ds)
specified_fails lams s a x ds t none_yet f e n h = faults_same f
    (and_then (block_declarators lams s t (declaring_of a none_yet None) ds) (λ (y : Declaring). done y.trees y.state)) _
    (ap (λ (z : Result Typ ElabFault). and_then z (λ (u : Typ). and_then
    (block_declarators lams s u (record { trees = none; state = state_of a; auto = None }) ds) (λ (y : Declaring). done y.trees y.state))) e
    ∙ ap (λ (z : List TNodeId). and_then (block_declarators lams s t (declaring_of a z None) ds) (λ (y : Declaring). done y.trees y.state)) (sym n))
    (faults_in (λ (z : Result Declaring ElabFault). and_then z (λ (y : Declaring). done y.trees y.state)) f
    (block_declarators lams s t (declaring_of a none_yet None) ds) (λ d. refl) h)

-- behind a type, whose bounds leave nothing behind
pub specified_declares : (lams : Lambdas) (s : List Lexeme) (a c : StateRec) (w : WorkRec) (ds : syntax.Trees) (t : Typ) (list none_yet : List TNodeId)
    → Unmoved a.work w → AllDeclared (record a { work = w }) c list (block_declarators lams s t (declaring_of (record a { work = w }) none_yet None) ds)
    → AllDeclared a c list (block_declarators lams s t (declaring_of a none_yet None) ds)
specified_declares lams s a c w ds t list none_yet u m =
    let d = m.declared in
    record {
      auto = m.auto;
      declared = record {
        grown = grown_trans a (record a { work = w }) c (unmoved_grown a w u) d.grown;
        within = d.within;
        is = ap (λ (z : Declaring). block_declarators lams s t z ds) (sym (unmoved_declaring a w none_yet None u)) ∙ d.is;
      };
    }

pub specified_faults : (lams : Lambdas) (s : List Lexeme) (a : StateRec) (w : WorkRec) (ds : syntax.Trees) (t : Typ) (none_yet : List TNodeId) (f : ElabFault)
    → Unmoved a.work w → Faults f (block_declarators lams s t (declaring_of (record a { work = w }) none_yet None) ds)
    → Faults f (block_declarators lams s t (declaring_of a none_yet None) ds)
specified_faults lams s a w ds t none_yet f u h = faults_same f (block_declarators lams s t (declaring_of (record a { work = w }) none_yet None) ds) _
    (ap (λ (z : Declaring). block_declarators lams s t z ds) (sym (unmoved_declaring a w none_yet None u))) h

-- a declaration

pub all_fail : (a c : StateRec) (before after : List TNodeId) (r : Result (Unit {0}) ElabFault) (f : ElabFault) (x : Result Done ElabFault) → r ≡ Err f
    → Faults f x → DoesAll a c before after r x
all_fail a c before after r f x e h = subst (λ (z : Result (Unit {0}) ElabFault). DoesAll a c before after z x) (sym e) h

pub all_same : (a c : StateRec) (before after : List TNodeId) (r : Result (Unit {0}) ElabFault) (x y : Result Done ElabFault) → y ≡ x
    → DoesAll a c before after r x → DoesAll a c before after r y
all_same a c before after r x y e m = subst (λ (z : Result Done ElabFault). DoesAll a c before after r z) (sym e) m

pub declaration_attribute : (lams : Lambdas) (s : List Lexeme) (st : State) (at : At) (ts rest : syntax.Trees) (x : syntax.Tree) (kind : NodeKind)
    (p : SyntaxAt) (token : Option ℕ) (us : syntax.Trees) → ts ≡ syntax.more x rest → x ≡ syntax.node kind p token us → kind ≡ k.Attribute
    → block_declaration lams s st at ts ≡ block_declaration lams s st at rest
declaration_attribute lams s st at ts rest x kind p token us e f h =
    ap (block_declaration lams s st at) (e ∙ ap (λ (z : syntax.Tree). syntax.more z rest) (f ∙ ap (λ (z : NodeKind). syntax.node z p token us) h))

pub declaration_specified : (lams : Lambdas) (s : List Lexeme) (st : State) (at : At) (ts rest : syntax.Trees) (x : syntax.Tree) (kind : NodeKind)
    (p : SyntaxAt) (token : Option ℕ) (us : syntax.Trees) → ts ≡ syntax.more x rest → x ≡ syntax.node kind p token us → kind ≡ k.TypeSpecifierSeq
    → block_declaration lams s st at ts ≡ specified_by lams s st x rest
declaration_specified lams s st at ts rest x kind p token us e f h =
    let n : x ≡ syntax.node k.TypeSpecifierSeq p token us = f ∙ ap (λ (z : NodeKind). syntax.node z p token us) h in
    ap (block_declaration lams s st at) (e ∙ ap (λ (z : syntax.Tree). syntax.more z rest) n) ∙ ap (λ (z : syntax.Tree). specified_by lams s st z rest) (sym n)

neither_kind : (lams : Lambdas) (s : List Lexeme) (st : State) (at : At) (rest : syntax.Trees) (kind : NodeKind) (p : SyntaxAt) (token : Option ℕ)
    (us : syntax.Trees) → kind ≢ k.Attribute → kind ≢ k.TypeSpecifierSeq
    → block_declaration lams s st at (syntax.more (syntax.node kind p token us) rest) ≡ Err (Ill at OutOfProfile)
neither_kind lams s st at rest k.Attribute p token us h n = absurd (h refl)
neither_kind lams s st at rest k.TypeSpecifierSeq p token us h n = absurd (n refl)
neither_kind lams s st at rest kind p token us h n = refl

pub declaration_neither : (lams : Lambdas) (s : List Lexeme) (st : State) (at : At) (ts rest : syntax.Trees) (x : syntax.Tree) (kind : NodeKind) (p : SyntaxAt)
    (token : Option ℕ) (us : syntax.Trees) → ts ≡ syntax.more x rest → x ≡ syntax.node kind p token us → kind ≢ k.Attribute → kind ≢ k.TypeSpecifierSeq
    → block_declaration lams s st at ts ≡ Err (Ill at OutOfProfile)
declaration_neither lams s st at ts rest x kind p token us e f h n = ap (block_declaration lams s st at) (e ∙ ap (λ (z : syntax.Tree). syntax.more z rest) f)
    ∙ neither_kind lams s st at rest kind p token us h n

pub declaration_none : (lams : Lambdas) (s : List Lexeme) (st : State) (at : At) (ts : syntax.Trees) → ts ≡ syntax.none
    → block_declaration lams s st at ts ≡ Err (Ill at OutOfProfile)
declaration_none lams s st at ts e = ap (block_declaration lams s st at) e

-- the kids behind the first
pub kids_more : (ts : List syntax.Tree) (ids : List NodeId) (kid : NodeId) → ids ≡ kid ∷ drop 1 ids
    → syntaxes_at ts ids ≡ syntax.more (syntax_at ts kid) (syntaxes_at ts (take (length ids - 1) (drop 1 ids)))
kids_more ts ids kid e = ap (syntaxes_at ts) e ∙ ap (λ (z : List NodeId). syntax.more (syntax_at ts kid) (syntaxes_at ts z)) (sym (rest_is ids))

pub kids_behind : (ts : List syntax.Tree) (all a b : List NodeId) (kid : NodeId) → a ≡ all → b ≡ all → a ≡ kid ∷ drop 1 a
    → syntaxes_at ts all ≡ syntax.more (syntax_at ts kid) (syntaxes_at ts (take (length b - 1) (drop 1 b)))
kids_behind ts all a b kid p q e = ap (syntaxes_at ts) (sym p ∙ e)
    ∙ ap (λ (z : List NodeId). syntax.more (syntax_at ts kid) (syntaxes_at ts z)) (rest_from a b all p q)

pub fewer : (ids : List NodeId) (kid : NodeId) → ids ≡ kid ∷ drop 1 ids → length (take (length ids - 1) (drop 1 ids)) < length ids
fewer [] kid e = absurd cc
fewer (i ∷ ids) kid e = rw (rest_is (i ∷ ids)) (omega arith)

pub rest_below : (n : ℕ) (ids : List NodeId) → are_below n ids ≡ true → are_below n (take (length ids - 1) (drop 1 ids)) ≡ true
rest_below n ids h = rw (rest_is ids) (below_rest n ids h)

-- what jumps may pass

pub skipped_more : (c : Ctx) (t : Typ) (ts : List syntax.Tree) (ids : List NodeId) (kid : NodeId) → ids ≡ kid ∷ drop 1 ids
    → false ≡ may_be_skipped c t (syntaxes_at ts ids)
skipped_more c t ts ids kid e = sym (ap (λ (z : List NodeId). may_be_skipped c t (syntaxes_at ts z)) e)

pub skipped_none : (c : Ctx) (t : Typ) (ts : List syntax.Tree) (ids : List NodeId) (r : Result Bool AllocError) → ids ≡ []
    → IfOk r (λ (b : Bool). b ≡ may_be_skipped c t syntax.none) → IfOk r (λ (b : Bool). b ≡ may_be_skipped c t (syntaxes_at ts ids))
skipped_none c t ts ids r e m = subst (λ (z : List NodeId). IfOk r (λ (b : Bool). b ≡ may_be_skipped c t (syntaxes_at ts z))) (sym e) m

pub faulted : {A : Type 0} (e f : ElabFault) (x : Result A ElabFault) → e ≡ f → Faults f x → Faults e x
faulted {A} e f x q h = subst (λ (z : ElabFault). Faults z x) (sym q) h
