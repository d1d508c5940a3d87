-- Parts of statements that hold no statements.
use Rattle.std.proofs.Common.{◌≡◌, ◌≢◌, ◌<◌, ◌++◌, ◌∷◌, ◌&&◌, ℕ, true, false, Bool, List, [], length, nat_lt, Option, Some, None, Result, Ok, Err, IfOk, refl}
use Rattle.std.proofs.Common.{sym, ap, ◌∙◌, subst}
use Rattle.std.proofs.lemmas.Bool.{ltb-true}
use Rattle.std.specs.declared.alloc.AllocError.{AllocError}
use Rattle.elab_locals.specs.cpp_lex.Tokens.{Lexeme}
use Rattle.elab_locals.specs.cpp_types.declared.classes.At.{At}
use Rattle.elab_locals.specs.cpp_ast.declared.arena.At.{At as SyntaxAt}
use Rattle.elab_locals.specs.cpp_ast.declared.kinds.NodeKind.{NodeKind}
use Rattle.elab_locals.specs.cpp_ast.declared.kinds.NodeKind.TheVariants as k
use Rattle.elab_locals.specs.cpp_ast.Trees as syntax
use Rattle.elab_locals.specs.cpp_tree.declared.faults.ElabFault.{ElabFault}
use Rattle.elab_locals.specs.cpp_tree.declared.arena.TNodeId.{TNodeId}
use Rattle.elab_locals.specs.cpp_tree.declared.kinds.TKind.TheVariants as forms
use Rattle.elab_locals.specs.cpp_tree.Trees.{Tree, Trees, none, one, three}
use Rattle.elab_locals.specs.cpp_tree.Arena.{tree_at, trees_at, Adds}
use Rattle.elab_locals.specs.elab_ctx.Steps.{and_then, at_of}
use Rattle.elab_locals.specs.elab_ctx.Says.{are_within}
use Rattle.elab_locals.proofs.elab_ctx.Looks.{grows_refl}
use Rattle.elab_locals.proofs.elab_ctx.Making.{last_adds}
use Rattle.elab_locals.proofs.elab_init.Listing.{trees_append, trees_grown, followed_none}
use Rattle.elab_locals.specs.elab_rules.Objects.{followed_by}
use Rattle.elab_locals.specs.elab_rules.Operators.{true_at}
use Rattle.elab_locals.specs.elab_rules.Statements.{Lambdas, State, Done, done, statement, block, the_tree, beginning, is_declaration, for_first, for_test}
use Rattle.elab_locals.specs.elab_rules.Statements.{for_step, block_declaration, expression_statement, condition}
use Rattle.elab_locals.specs.elab_scopes.declared.state.State.{State as StateRec}
use Rattle.elab_locals.specs.elab_scopes.States.{state_of, made}
use Rattle.elab_locals.specs.elab_scopes.Says.{OneDone, AllDone, behind}
use Rattle.elab_locals.proofs.elab_scopes.Standing.{grown_refl, grown_by}
use Rattle.elab_stmt.specs.Parts.{one_part, for_loop}

pub for_made : (n0 n1 n2 : List Tree) (first kids : List TNodeId) (rep : TNodeId) (r : Result TNodeId AllocError) (at : At) (test body step : Tree)
    → are_within (length n0) first ≡ true → Adds n0 n1 rep (statement (forms.Loop true) at (three test body step)) → kids ≡ first ++ rep ∷ []
    → IfOk r (λ (id : TNodeId). Adds n1 n2 id (block at (trees_at n1 kids)))
    → IfOk r (λ (id : TNodeId). Adds n0 n2 id (for_loop at (trees_at n0 first) test body step))
for_made n0 n1 n2 first kids rep r at test body step w m e q =
    last_adds n0 n1 n2 r _ _ m.grows (ap (block at) (ap (trees_at n1) e ∙ trees_append n1 first (rep ∷ []) ∙ ap
    (λ (z : Trees). followed_by z (one (tree_at n1 rep))) (trees_grown n0 n1 first m.grows w)
    ∙ ap (λ (z : Tree). followed_by (trees_at n0 first) (one z)) m.is)) q

-- one tree, or a block of several

is_below : (b : Bool) → (b && true) ≡ true → b ≡ true
is_below true h = refl
is_below false h = absurd cc

pub one_stays : (n : List Tree) (ids shown : List TNodeId) (id : TNodeId) (at : At) → are_within (length n) ids ≡ true → shown ≡ ids → shown ≡ id ∷ []
    → Adds n n id (the_tree at (trees_at n ids))
one_stays n ids shown id at w d e =
    let all : ids ≡ id ∷ [] = sym d ∙ e in
    let below : (nat_lt id.0 (length n) && true) ≡ true = ap (are_within (length n)) (sym all) ∙ w in
    record {
      grows = grows_refl n;
      within = ltb-true id.0 (length n) (is_below (nat_lt id.0 (length n)) below);
      is =
          ap (λ (z : List TNodeId). the_tree at (trees_at n z)) (sym all);
    }

not_one : (n : List Tree) (ids : List TNodeId) (at : At) → length ids ≢ 1 → block at (trees_at n ids) ≡ the_tree at (trees_at n ids)
not_one n [] at h = refl
not_one n (a ∷ []) at h = absurd (h refl)
not_one n (a ∷ (b ∷ ids)) at h = refl

pub several : (n m : List Tree) (ids shown : List TNodeId) (r : Result TNodeId AllocError) (at : At) → shown ≡ ids → length shown ≢ 1
    → IfOk r (λ (id : TNodeId). Adds n m id (block at (trees_at n ids))) → IfOk r (λ (id : TNodeId). Adds n m id (the_tree at (trees_at n ids)))
several n m ids shown r at d h q = subst (λ (z : Tree). IfOk r (λ (id : TNodeId). Adds n m id z))
    (not_one n ids at (λ (e : length ids ≡ 1). h (ap length d ∙ e))) q

pub last_one : (a c : StateRec) (r : Result TNodeId AllocError) (t : Tree) (x : Result Done ElabFault) → x ≡ done (one t) (state_of a) → state_of c ≡ state_of a
    → IfOk r (λ (id : TNodeId). Adds (made a) (made c) id t) → IfOk r (λ (id : TNodeId). OneDone a c id x)
last_one a c (Ok id) t x e s m = record {
  grown = grown_by a c m.grows (ap (λ (z : State). z.ctx.labels) s);
  within = m.within;
  is = e ∙ ap
      (λ (z : Tree). done (one z) (state_of a)) (sym m.is) ∙ ap (λ (z : State). done (one (tree_at (made c) id)) z) (sym s);
}
last_one a c (Err d) t x e s m = tt

pub all_none : (a : StateRec) (ids : List TNodeId) (x : Result Done ElabFault) → are_within (length (made a)) ids ≡ true → x ≡ done none (state_of a)
    → AllDone a a ids ids x
all_none a ids x w e = record {
  grown = grown_refl a;
  within = w;
  is = ap (behind (trees_at (made a) ids)) e ∙ ap (λ (z : Trees). done z (state_of a))
      (followed_none (trees_at (made a) ids));
}

pub part_declared : (s : List Lexeme) (at b : At) (x : syntax.Tree) (kind : NodeKind) (p : SyntaxAt) (token : Option ℕ) (us : syntax.Trees) (ts : Trees)
    (st : State) → x ≡ syntax.node kind p token us → kind ≡ k.SimpleDeclaration → b ≡ beginning s x
    → one_part s at x (record { trees = ts; state = st }) ≡ done (one (block b ts)) st
part_declared s at b x kind p token us ts st e h q =
    let n : x ≡ syntax.node k.SimpleDeclaration p token us = e ∙ ap (λ (z : NodeKind). syntax.node z p token us) h in
    ap (λ (z : syntax.Tree). one_part s at z (record { trees = ts; state = st })) n ∙ ap (λ (z : syntax.Tree). done (one (block (beginning s z) ts)) st) (sym n)
    ∙ ap (λ (z : At). done (one (block z ts)) st) (sym q)

plain_kind : (s : List Lexeme) (at : At) (kind : NodeKind) (p : SyntaxAt) (token : Option ℕ) (us : syntax.Trees) (ts : Trees) (st : State)
    → kind ≢ k.SimpleDeclaration → one_part s at (syntax.node kind p token us) (record { trees = ts; state = st }) ≡ done (one (the_tree at ts)) st
plain_kind s at k.SimpleDeclaration p token us ts st h = absurd (h refl)
plain_kind s at kind p token us ts st h = refl

pub part_plain : (s : List Lexeme) (at : At) (x : syntax.Tree) (kind : NodeKind) (p : SyntaxAt) (token : Option ℕ) (us : syntax.Trees) (ts : Trees) (st : State)
    → x ≡ syntax.node kind p token us → kind ≢ k.SimpleDeclaration → one_part s at x (record { trees = ts; state = st }) ≡ done (one (the_tree at ts)) st
part_plain s at x kind p token us ts st e h = ap (λ (z : syntax.Tree). one_part s at z (record { trees = ts; state = st })) e
    ∙ plain_kind s at kind p token us ts st h

-- parts of a `for`

pub first_absent : (lams : Lambdas) (s : List Lexeme) (st : State) (x : syntax.Tree) (kind : NodeKind) (p : SyntaxAt) (token : Option ℕ) (us : syntax.Trees)
    → x ≡ syntax.node kind p token us → kind ≡ k.Absent → for_first lams s st x ≡ done none st
first_absent lams s st x kind p token us e h = ap (for_first lams s st) (e ∙ ap (λ (z : NodeKind). syntax.node z p token us) h)

pub first_declared : (lams : Lambdas) (s : List Lexeme) (st : State) (x : syntax.Tree) (kind : NodeKind) (p : SyntaxAt) (at : At) (token : Option ℕ)
    (us ds : syntax.Trees) → x ≡ syntax.node kind p token us → kind ≡ k.SimpleDeclaration → at ≡ at_of p → ds ≡ us
    → for_first lams s st x ≡ block_declaration lams s st at ds
first_declared lams s st x kind p at token us ds e h n f = ap (for_first lams s st) (e ∙ ap (λ (z : NodeKind). syntax.node z p token us) h)
    ∙ ap (λ (z : At). block_declaration lams s st z us) (sym n) ∙ ap (block_declaration lams s st at) (sym f)

first_kind : (lams : Lambdas) (s : List Lexeme) (st : State) (kind : NodeKind) (p : SyntaxAt) (token : Option ℕ) (us : syntax.Trees) → kind ≢ k.Absent
    → kind ≢ k.SimpleDeclaration → for_first lams s st (syntax.node kind p token us) ≡ expression_statement lams s st (syntax.node kind p token us)
first_kind lams s st k.Absent p token us h n = absurd (h refl)
first_kind lams s st k.SimpleDeclaration p token us h n = absurd (n refl)
first_kind lams s st kind p token us h n = refl

pub first_plain : (lams : Lambdas) (s : List Lexeme) (st : State) (x : syntax.Tree) (kind : NodeKind) (p : SyntaxAt) (token : Option ℕ) (us : syntax.Trees)
    → x ≡ syntax.node kind p token us → kind ≢ k.Absent → kind ≢ k.SimpleDeclaration → for_first lams s st x ≡ expression_statement lams s st x
first_plain lams s st x kind p token us e h n = ap (for_first lams s st) e ∙ first_kind lams s st kind p token us h n
    ∙ ap (expression_statement lams s st) (sym e)

pub test_absent : (lams : Lambdas) (s : List Lexeme) (st : State) (at : At) (x : syntax.Tree) (kind : NodeKind) (p : SyntaxAt) (token : Option ℕ)
    (us : syntax.Trees) → x ≡ syntax.node kind p token us → kind ≡ k.Absent → for_test lams s st at x ≡ done (one (true_at at)) st
test_absent lams s st at x kind p token us e h = ap (for_test lams s st at) (e ∙ ap (λ (z : NodeKind). syntax.node z p token us) h)

test_kind : (lams : Lambdas) (s : List Lexeme) (st : State) (at : At) (kind : NodeKind) (p : SyntaxAt) (token : Option ℕ) (us : syntax.Trees) → kind ≢ k.Absent
    → for_test lams s st at (syntax.node kind p token us) ≡ condition lams s st (syntax.node kind p token us)
test_kind lams s st at k.Absent p token us h = absurd (h refl)
test_kind lams s st at kind p token us h = refl

pub test_plain : (lams : Lambdas) (s : List Lexeme) (st : State) (at : At) (x : syntax.Tree) (kind : NodeKind) (p : SyntaxAt) (token : Option ℕ)
    (us : syntax.Trees) → x ≡ syntax.node kind p token us → kind ≢ k.Absent → for_test lams s st at x ≡ condition lams s st x
test_plain lams s st at x kind p token us e h = ap (for_test lams s st at) e ∙ test_kind lams s st at kind p token us h ∙ ap (condition lams s st) (sym e)

pub step_absent : (lams : Lambdas) (s : List Lexeme) (st : State) (at : At) (x : syntax.Tree) (kind : NodeKind) (p : SyntaxAt) (token : Option ℕ)
    (us : syntax.Trees) → x ≡ syntax.node kind p token us → kind ≡ k.Absent → for_step lams s st at x ≡ done (one (block at none)) st
step_absent lams s st at x kind p token us e h = ap (for_step lams s st at) (e ∙ ap (λ (z : NodeKind). syntax.node z p token us) h)

step_kind : (lams : Lambdas) (s : List Lexeme) (st : State) (at : At) (kind : NodeKind) (p : SyntaxAt) (token : Option ℕ) (us : syntax.Trees) → kind ≢ k.Absent
    → for_step lams s st at (syntax.node kind p token us) ≡ expression_statement lams s st (syntax.node kind p token us)
step_kind lams s st at k.Absent p token us h = absurd (h refl)
step_kind lams s st at kind p token us h = refl

pub step_plain : (lams : Lambdas) (s : List Lexeme) (st : State) (at : At) (x : syntax.Tree) (kind : NodeKind) (p : SyntaxAt) (token : Option ℕ)
    (us : syntax.Trees) → x ≡ syntax.node kind p token us → kind ≢ k.Absent → for_step lams s st at x ≡ expression_statement lams s st x
step_plain lams s st at x kind p token us e h = ap (for_step lams s st at) e ∙ step_kind lams s st at kind p token us h
    ∙ ap (expression_statement lams s st) (sym e)
