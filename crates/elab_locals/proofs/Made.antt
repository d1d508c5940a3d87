-- Nodes of variables with what was made to initialise them.
use Rattle.std.proofs.Common.{◌≡◌, ◌<◌, ◌∷◌, ℕ, List, length, Option, Result, IfOk, refl, sym, ap, ◌∙◌, subst}
use Rattle.std.specs.declared.alloc.AllocError.{AllocError}
use Rattle.elab_scopes.specs.cpp_lex.Tokens.{Lexeme}
use Rattle.elab_scopes.specs.cpp_types.Typ.{Typ}
use Rattle.elab_scopes.specs.cpp_types.declared.classes.At.{At}
use Rattle.elab_scopes.specs.cpp_ast.declared.arena.At.{At as SyntaxAt}
use Rattle.elab_scopes.specs.cpp_ast.declared.kinds.NodeKind.{NodeKind}
use Rattle.elab_scopes.specs.cpp_ast.Trees as syntax
use Rattle.elab_scopes.specs.cpp_tree.declared.faults.ElabFault.{ElabFault}
use Rattle.elab_scopes.specs.cpp_tree.declared.arena.TNodeId.{TNodeId}
use Rattle.elab_scopes.specs.cpp_tree.declared.kinds.TKind.TheVariants as forms
use Rattle.elab_scopes.specs.cpp_tree.Trees.{Tree, Trees, more, one}
use Rattle.elab_scopes.specs.cpp_tree.Arena.{tree_at, trees_at, Adds}
use Rattle.elab_scopes.specs.elab_ctx.declared.operand.Operand.{Operand as OperandRec}
use Rattle.elab_scopes.specs.elab_ctx.Ctx.{Ctx, Work, ctx_of, work_of}
use Rattle.elab_scopes.specs.elab_ctx.Operands.{operands_in}
use Rattle.elab_scopes.specs.elab_ctx.Steps.{and_then, at_of, Made, TypedAll}
use Rattle.elab_scopes.specs.elab_ctx.Says.{Faults, Given, MadeAt, AddsAll}
use Rattle.elab_scopes.proofs.elab_ctx.Looks.{grows_trans, at_grown}
use Rattle.elab_scopes.proofs.elab_ctx.Making.{faults_in, faults_same, last_adds}
use Rattle.elab_scopes.specs.elab_rules.Objects.{destroys}
use Rattle.elab_scopes.specs.elab_rules.Expressions.{operands_of}
use Rattle.elab_scopes.specs.elab_rules.Statements.{Lambdas, State, Full, done, statement, full, with_work, full_operand, all_lambdas}
use Rattle.elab_scopes.specs.elab_rows.Typed.{AllTyped}
use Rattle.elab_scopes.specs.declared.state.State.{State as StateRec}
use Rattle.elab_scopes.specs.States.{state_of, made, full_in}
use Rattle.elab_scopes.specs.Says.{OneDone, Does, Changed, FullAt}
use Rattle.elab_scopes.proofs.Standing.{grown_by, does_after, does_grown}
use Rattle.elab_locals.specs.Inits.{init_in, expression_made, by_value_in, values_made, values_read, kids_read, by_values_in, braces_made, by_braces_in}
use Rattle.elab_locals.specs.Inits.{initialised_by}
use Rattle.elab_braces.specs.Forms.{Form}

-- a variable, its initialiser as a whole, and its destructions

init_parts : (n0 n1 n2 : List Tree) (variable i : TNodeId) (ends kids : List TNodeId) (u : Tree) (ds : Trees) → variable.0 < length n0 → Adds n0 n1 i u
    → AddsAll n1 n2 ends ds → kids ≡ variable ∷ i ∷ ends → trees_at n2 kids ≡ more (tree_at n0 variable) (more u ds)
init_parts n0 n1 n2 variable i ends kids u ds h m n e =
    let first : tree_at n2 variable ≡ tree_at n0 variable = at_grown n0 n2 variable (grows_trans m.grows n.grows) h in
    let second : tree_at n2 i ≡ u = at_grown n1 n2 i n.grows m.within ∙ m.is in
    ap (trees_at n2) e ∙ ap (λ (z : Tree). more z (more (tree_at n2 i) (trees_at n2 ends))) first
    ∙ ap (λ (z : Tree). more (tree_at n0 variable) (more z (trees_at n2 ends))) second ∙ ap (λ (z : Trees). more (tree_at n0 variable) (more u z)) n.are

pub init_ok : (c : Ctx) (n0 n1 n2 n3 : List Tree) (variable init i : TNodeId) (ends kids : List TNodeId) (r : Result TNodeId AllocError) (t : Typ) (at p : At)
    → variable.0 < length n0 → Adds n0 n1 i (full p (tree_at n0 init)) → AddsAll n1 n2 ends (destroys c at t) → kids ≡ variable ∷ i ∷ ends
    → IfOk r (λ (id : TNodeId). Adds n2 n3 id (statement forms.Init at (trees_at n2 kids)))
    → IfOk r (λ (id : TNodeId). Adds n0 n3 id (init_in c t at p (tree_at n0 variable) (tree_at n0 init)))
init_ok c n0 n1 n2 n3 variable init i ends kids r t at p h m n e q =
    last_adds n0 n2 n3 r _ _ (grows_trans m.grows n.grows)
    (ap (statement forms.Init at) (init_parts n0 n1 n2 variable i ends kids (full p (tree_at n0 init)) (destroys c at t) h m n e)) q

-- with a tree that was made, and nothing else
pub init_given : (a c : StateRec) (b : List Tree) (variable id r : TNodeId) (whole p : At) (x : Result Tree ElabFault) (g : At → Tree → Tree → Tree)
    → variable.0 < length (made a) → whole ≡ p → Given (made a) b id x → Adds b (made c) r (g whole (tree_at b variable) (tree_at b id))
    → state_of c ≡ state_of a → OneDone a c r (and_then x (λ (e : Tree). done (one (g p (tree_at (made a) variable) e)) (state_of a)))
init_given a c b variable id r whole p x g h k m q s = record {
  grown = grown_by a c (grows_trans m.grows q.grows) (ap (λ (z : State). z.ctx.labels) s);
  within = q.within;
  is = ap (λ (z : Result Tree ElabFault). and_then z (λ (e : Tree). done (one (g p (tree_at (made a) variable) e)) (state_of a))) m.is
      ∙ ap (λ (z : Tree). done (one (g p z (tree_at b id))) (state_of a)) (sym (at_grown (made a) b variable m.grows h))
      ∙ ap (λ (z : At). done (one (g z (tree_at b variable) (tree_at b id))) (state_of a)) (sym k)
      ∙ ap (λ (z : Tree). done (one z) (state_of a)) (sym q.is) ∙ ap (λ (z : State). done (one (tree_at (made c) r)) z) (sym s);
}

-- with what was made, behind which no lambdas are known
pub init_made : (a c : StateRec) (st : State) (b : List Tree) (w : Work) (variable id r : TNodeId) (whole p : At) (x : Result Made ElabFault)
    (g : At → Tree → Tree → Tree) → variable.0 < length (made a) → whole ≡ p → MadeAt (made a) b w id x
    → Adds b (made c) r (g whole (tree_at b variable) (tree_at b id)) → st ≡ state_of a → state_of c ≡ with_work (state_of a) w
    → OneDone a c r (and_then x (λ (m : Made). done (one (g p (tree_at (made a) variable) m.tree)) (with_work st m.work)))
init_made a c st b w variable id r whole p x g h k m q e s = record {
  grown = grown_by a c (grows_trans m.grows q.grows) (ap (λ (z : State). z.ctx.labels) s);
  within = q.within;
  is = ap (λ (z : Result Made ElabFault). and_then z (λ (n : Made). done (one (g p (tree_at (made a) variable) n.tree)) (with_work st n.work))) m.is
      ∙ ap (λ (z : State). done (one (g p (tree_at (made a) variable) (tree_at b id))) (with_work z w)) e
      ∙ ap (λ (z : Tree). done (one (g p z (tree_at b id))) (with_work (state_of a) w)) (sym (at_grown (made a) b variable m.grows h))
      ∙ ap (λ (z : At). done (one (g z (tree_at b variable) (tree_at b id))) (with_work (state_of a) w)) (sym k)
      ∙ ap (λ (z : Tree). done (one z) (with_work (state_of a) w)) (sym q.is) ∙ ap (λ (z : State). done (one (tree_at (made c) r)) z) (sym s);
}

-- Behind lambdas, expressions and values

pub value_made : (lams : Lambdas) (s : List Lexeme) (a b c : StateRec) (variable : TNodeId) (t : Typ) (at : At) (e : syntax.Tree) (o : OperandRec)
    (r : Result TNodeId ElabFault) → variable.0 < length (made a) → FullAt a b o (full_operand lams s (state_of a) e)
    → Does b c r (expression_made t at (tree_at (made b) variable) (full_in b o))
    → Does a c r (by_value_in lams s (tree_at (made a) variable) (state_of a) t at e)
value_made lams s a b c variable t at e o r h m d = does_after a b c (full_operand lams s (state_of a) e) (full_in b o)
    (λ (f : Full). expression_made t at (tree_at (made a) variable) f) r m.grown m.is
    (subst (λ (z : Tree). Does b c r (expression_made t at z (full_in b o))) (at_grown (made a) (made b) variable m.grown.trees h) d)

pub values_done : (s : List Lexeme) (a b c : StateRec) (variable : TNodeId) (t : Typ) (at place : At) (x : syntax.Tree) (kind : NodeKind) (p : SyntaxAt)
    (token : Option ℕ) (es us : syntax.Trees) (os vs : List OperandRec) (r : Result TNodeId ElabFault) → variable.0 < length (made a)
    → x ≡ syntax.node kind p token es → us ≡ es → place ≡ at_of p
    → AllTyped (made a) (made b) (work_of b.work) os (operands_of s (ctx_of a.env) (work_of a.work) us)
    → state_of b ≡ record (state_of a) { work = work_of b.work } → vs ≡ os
    → Does b c r (values_made (state_of b) t at (tree_at (made b) variable) place (record { operands = operands_in (made b) vs; work = work_of b.work }))
    → Does a c r (kids_read s (tree_at (made a) variable) (state_of a) t at x)
values_done s a b c variable t at place x kind p token es us os vs r h e f k m q n d =
    let v : Tree = tree_at (made a) variable in
    let xs : TypedAll = record { operands = operands_in (made b) os; work = work_of b.work } in
    let eq : kids_read s v (state_of a) t at x ≡ values_made (state_of b) t at (tree_at (made b) variable) place
    (record { operands = operands_in (made b) vs; work = work_of b.work })
    = ap (kids_read s v (state_of a) t at) e
    ∙ ap (λ (z : syntax.Trees). values_read s v (state_of a) t at (at_of p) z) (sym f)
    ∙ ap (λ (z : Result TypedAll ElabFault). and_then z (λ (y : TypedAll). values_made (state_of a) t at v (at_of p) y)) m.is
    ∙ ap (λ (z : Tree). values_made (state_of a) t at z (at_of p) xs) (sym (at_grown (made a) (made b) variable m.grows h))
    ∙ ap (λ (z : At). values_made (state_of a) t at (tree_at (made b) variable) z xs) (sym k)
    ∙ ap (λ (z : State). values_made z t at (tree_at (made b) variable) place xs) (sym q)
    ∙ ap (λ (z : List OperandRec). values_made (state_of b) t at (tree_at (made b) variable) place
    (record { operands = operands_in (made b) z; work = work_of b.work })) (sym n) in
    does_grown a b c r _ _ (grown_by a b m.grows (ap (λ (z : State). z.ctx.labels) q)) eq d

pub values_fail : (s : List Lexeme) (st : State) (variable : Tree) (t : Typ) (at : At) (x : syntax.Tree) (kind : NodeKind) (p : SyntaxAt) (token : Option ℕ)
    (es us : syntax.Trees) (f : ElabFault) → x ≡ syntax.node kind p token es → us ≡ es → Faults f (operands_of s st.ctx st.work us)
    → Faults f (kids_read s variable st t at x)
values_fail s st variable t at x kind p token es us f e k h =
    faults_same f (values_read s variable st t at (at_of p) us) _
    (ap (kids_read s variable st t at) e ∙ ap (λ (z : syntax.Trees). values_read s variable st t at (at_of p) z) (sym k))
    (faults_in (λ (z : Result TypedAll ElabFault). and_then z (λ (xs : TypedAll). values_made st t at variable (at_of p) xs)) f
    (operands_of s st.ctx st.work us) (λ d. refl) h)

pub lambdas_values : (lams : Lambdas) (s : List Lexeme) (a b c : StateRec) (variable : TNodeId) (t : Typ) (at : At) (x : syntax.Tree) (kind : NodeKind)
    (p : SyntaxAt) (token : Option ℕ) (es us : syntax.Trees) (r : Result TNodeId ElabFault) → variable.0 < length (made a) → x ≡ syntax.node kind p token es
    → us ≡ es → Changed a b (all_lambdas lams s (state_of a) us) → Does b c r (kids_read s (tree_at (made b) variable) (state_of b) t at x)
    → Does a c r (by_values_in lams s (tree_at (made a) variable) (state_of a) t at x)
lambdas_values lams s a b c variable t at x kind p token es us r h e f m d =
    let v : Tree = tree_at (made a) variable in
    let eq : by_values_in lams s v (state_of a) t at x ≡ kids_read s (tree_at (made b) variable) (state_of b) t at x
    = ap (by_values_in lams s v (state_of a) t at) e
    ∙ ap (λ (z : syntax.Trees). and_then (all_lambdas lams s (state_of a) z) (λ (y : State). values_read s v y t at (at_of p) es)) (sym f)
    ∙ ap (λ (z : Result State ElabFault). and_then z (λ (y : State). values_read s v y t at (at_of p) es)) m.is
    ∙ ap (λ (z : Tree). values_read s z (state_of b) t at (at_of p) es) (sym (at_grown (made a) (made b) variable m.grown.trees h))
    ∙ ap (kids_read s (tree_at (made b) variable) (state_of b) t at) (sym e) in
    does_grown a b c r _ _ m.grown eq d

pub lambdas_values_fail : (lams : Lambdas) (s : List Lexeme) (st : State) (variable : Tree) (t : Typ) (at : At) (x : syntax.Tree) (kind : NodeKind)
    (p : SyntaxAt) (token : Option ℕ) (es us : syntax.Trees) (f : ElabFault) → x ≡ syntax.node kind p token es → us ≡ es → Faults f (all_lambdas lams s st us)
    → Faults f (by_values_in lams s variable st t at x)
lambdas_values_fail lams s st variable t at x kind p token es us f e k h =
    faults_same f (and_then (all_lambdas lams s st us) (λ (y : State). values_read s variable y t at (at_of p) es)) _
    (ap (by_values_in lams s variable st t at) e ∙ ap
    (λ (z : syntax.Trees). and_then (all_lambdas lams s st z) (λ (y : State). values_read s variable y t at (at_of p) es)) (sym k))
    (faults_in (λ (z : Result State ElabFault). and_then z (λ (y : State). values_read s variable y t at (at_of p) es)) f (all_lambdas lams s st us)
    (λ d. refl) h)

pub lambdas_braces : (lams : Lambdas) (s : List Lexeme) (a b c : StateRec) (variable : TNodeId) (t : Typ) (at : At) (x : syntax.Tree) (kind : NodeKind)
    (p : SyntaxAt) (token : Option ℕ) (es us : syntax.Trees) (r : Result TNodeId ElabFault) → variable.0 < length (made a) → x ≡ syntax.node kind p token es
    → us ≡ es → Changed a b (all_lambdas lams s (state_of a) us) → Does b c r (braces_made s (tree_at (made b) variable) (state_of b) t at x)
    → Does a c r (by_braces_in lams s (tree_at (made a) variable) (state_of a) t at x)
lambdas_braces lams s a b c variable t at x kind p token es us r h e f m d =
    let v : Tree = tree_at (made a) variable in
    let n : syntax.Tree = syntax.node kind p token es in
    let eq : by_braces_in lams s v (state_of a) t at x ≡ braces_made s (tree_at (made b) variable) (state_of b) t at x
    = ap (by_braces_in lams s v (state_of a) t at) e
    ∙ ap (λ (z : syntax.Trees). and_then (all_lambdas lams s (state_of a) z) (λ (y : State). braces_made s v y t at n)) (sym f)
    ∙ ap (λ (z : Result State ElabFault). and_then z (λ (y : State). braces_made s v y t at n)) m.is
    ∙ ap (λ (z : Tree). braces_made s z (state_of b) t at n) (sym (at_grown (made a) (made b) variable m.grown.trees h))
    ∙ ap (braces_made s (tree_at (made b) variable) (state_of b) t at) (sym e) in
    does_grown a b c r _ _ m.grown eq d

pub lambdas_braces_fail : (lams : Lambdas) (s : List Lexeme) (st : State) (variable : Tree) (t : Typ) (at : At) (x : syntax.Tree) (kind : NodeKind)
    (p : SyntaxAt) (token : Option ℕ) (es us : syntax.Trees) (f : ElabFault) → x ≡ syntax.node kind p token es → us ≡ es → Faults f (all_lambdas lams s st us)
    → Faults f (by_braces_in lams s variable st t at x)
lambdas_braces_fail lams s st variable t at x kind p token es us f e k h =
    let n : syntax.Tree = syntax.node kind p token es in
    faults_same f (and_then (all_lambdas lams s st us) (λ (y : State). braces_made s variable y t at n)) _
    (ap (by_braces_in lams s variable st t at) e ∙ ap
    (λ (z : syntax.Trees). and_then (all_lambdas lams s st z) (λ (y : State). braces_made s variable y t at n)) (sym k))
    (faults_in (λ (z : Result State ElabFault). and_then z (λ (y : State). braces_made s variable y t at n)) f (all_lambdas lams s st us) (λ d. refl) h)

pub form_does : (lams : Lambdas) (s : List Lexeme) (a c : StateRec) (variable : Tree) (t : Typ) (at : At) (f g : Form) (r : Result TNodeId ElabFault) → f ≡ g
    → Does a c r (initialised_by lams s variable (state_of a) t at f) → Does a c r (initialised_by lams s variable (state_of a) t at g)
form_does lams s a c variable t at f g r e m = subst (λ (z : Form). Does a c r (initialised_by lams s variable (state_of a) t at z)) e m
