-- The rows of the recursion, step by step.
use Rattle.std.proofs.Common.{◌≡◌, true, false, not, ◌||◌, Bool, ℕ, List, Option, Some, None, Result, Ok, Err, refl, ap, sym, ◌∙◌}
use Rattle.elab_locals.specs.cpp_lex.Tokens.{Lexeme}
use Rattle.elab_locals.specs.cpp_types.declared.classes.At.{At}
use Rattle.elab_locals.specs.cpp_ast.declared.arena.At.{At as SyntaxAt}
use Rattle.elab_locals.specs.cpp_ast.declared.kinds.NodeKind.{NodeKind}
use Rattle.elab_locals.specs.cpp_ast.declared.kinds.NodeKind.TheVariants as k
use Rattle.elab_locals.specs.cpp_ast.Trees as syntax
use Rattle.elab_locals.specs.cpp_tree.declared.faults.ElabFault.{ElabFault}
use Rattle.elab_locals.specs.cpp_tree.declared.faults.IllRule.TheVariants.{BadCatch}
use Rattle.elab_locals.specs.cpp_tree.declared.kinds.TKind.{TKind}
use Rattle.elab_locals.specs.cpp_tree.declared.kinds.TKind.TheVariants as forms
use Rattle.elab_locals.specs.cpp_tree.Trees.{Tree, Trees, none, one, more, three}
use Rattle.elab_locals.specs.elab_ctx.Steps.{and_then, check, at_of, spelling}
use Rattle.elab_locals.specs.elab_rules.Statements.{Lambdas, State, Done, Switched, done, statement, block, the_tree, condition, switched, a_part, inner}
use Rattle.elab_locals.specs.elab_rules.Statements.{in_loop, in_block, in_switch, outer, block_kind, for_first, for_test, for_step, Caught, handler_node}
use Rattle.elab_locals.specs.elab_rules.Statements.{handler_type, is_ellipsis, is_last, joined, statement_of, statements_of, handlers_of}
use Rattle.elab_stmt.specs.Parts.{body_of, part_of, inner_part, loop_part, if_alone, if_both, if_other, while_body, do_test, guarded, tried, try_handlers}
use Rattle.elab_stmt.specs.Parts.{switch_body, for_inside, for_body, for_last, for_stepped, for_tested, for_loop, handler_if, handler_of, handler_body}

-- what follows a body

body_then : (x : Result Done ElabFault) (at : At) (st : State)
    → and_then x (λ (d : Done). done (one (block at d.trees)) (outer st d.state))
    ≡ and_then (and_then x (λ (d : Done). done (one (block at d.trees)) d.state)) (λ (y : Done). done y.trees (outer st y.state))
body_then (Ok d) at st = refl
body_then (Err e) at st = refl

pub compound_is : (lams : Lambdas) (s : List Lexeme) (st : State) (p : SyntaxAt) (token : Option ℕ) (kids : syntax.Trees)
    → statement_of lams s st (syntax.node k.CompoundStatement p token kids)
    ≡ and_then (body_of lams s (inner st) (syntax.node k.CompoundStatement p token kids)) (λ (y : Done). done y.trees (outer st y.state))
compound_is lams s st p token kids = body_then (statements_of lams s (inner st) kids) (at_of p) st

guarded_then : (x : Result Done ElabFault) (at p : At) (kind : TKind) (st : State)
    → and_then x (λ (d : Done). done (one (statement kind at (one (block p d.trees)))) (outer st d.state))
    ≡ and_then (and_then x (λ (d : Done). done (one (block p d.trees)) d.state)) (λ (d : Done). done (one (statement kind at d.trees)) (outer st d.state))
guarded_then (Ok d) at p kind st = refl
guarded_then (Err e) at p kind st = refl

pub synchronized_is : (lams : Lambdas) (s : List Lexeme) (st : State) (p : SyntaxAt) (token : Option ℕ) (b : syntax.Tree)
    → statement_of lams s st (syntax.node k.SynchronizedStatement p token (syntax.more b syntax.none)) ≡ guarded lams s st (at_of p) forms.Synchronized b
synchronized_is lams s st p token (syntax.node kind q brace kids) =
    guarded_then (statements_of lams s (in_block st) kids) (at_of p) (at_of q) forms.Synchronized st

pub atomic_is : (lams : Lambdas) (s : List Lexeme) (st : State) (p : SyntaxAt) (t : ℕ) (b : syntax.Tree)
    → statement_of lams s st (syntax.node k.AtomicStatement p (Some t) (syntax.more b syntax.none))
    ≡ guarded lams s st (at_of p) (forms.Atomic (block_kind (spelling s t))) b
atomic_is lams s st p t (syntax.node kind q brace kids) =
    guarded_then (statements_of lams s (in_block st) kids) (at_of p) (at_of q) (forms.Atomic (block_kind (spelling s t))) st

-- what follows a part: with the state that stands around it, and with its tree

part_then : {A : Type 0} (x : Result Done ElabFault) (at : At) (st : State) (g : Tree → State → Result A ElabFault)
    → and_then x (λ (y : Done). g (the_tree at y.trees) (outer st y.state))
    ≡ and_then (and_then (and_then x (λ (y : Done). done (one (the_tree at y.trees)) y.state)) (λ (y : Done). done y.trees (outer st y.state)))
    (λ (y : Done). g (the_tree at y.trees) y.state)
part_then (Ok d) at st g = refl
part_then (Err e) at st g = refl

pub then_same : {A B : Type 0} (x : Result A ElabFault) (f g : A → Result B ElabFault) → ((a : A) → f a ≡ g a) → and_then x f ≡ and_then x g
then_same (Ok a) f g h = h a
then_same (Err e) f g h = refl

pub if_alone_is : (lams : Lambdas) (s : List Lexeme) (st : State) (p : SyntaxAt) (token : Option ℕ) (e a : syntax.Tree)
    → statement_of lams s st (syntax.node k.IfStatement p token (syntax.more e (syntax.more a syntax.none)))
    ≡ and_then (condition lams s st e) (λ (x : Done). if_alone lams s x.state (at_of p) (the_tree (at_of p) x.trees) a)
if_alone_is lams s st p token e a = then_same (condition lams s st e) _ _
    (λ (x : Done). part_then (and_then (statement_of lams s (inner x.state) a) (a_part s a)) (at_of p) x.state
    (λ (t : Tree) (u : State). done (one (statement forms.Conditional (at_of p) (three (the_tree (at_of p) x.trees) t (block (at_of p) none)))) u))

both_then : (lams : Lambdas) (s : List Lexeme) (st : State) (at : At) (test : Tree) (b : syntax.Tree) (x : Result Done ElabFault)
    → and_then x (λ (y : Done). and_then (and_then (statement_of lams s (inner (outer st y.state)) b) (a_part s b))
    (λ (z : Done). done (one (statement forms.Conditional at (three test (the_tree at y.trees) (the_tree at z.trees)))) (outer st z.state)))
    ≡ and_then (and_then (and_then x (λ (y : Done). done (one (the_tree at y.trees)) y.state)) (λ (y : Done). done y.trees (outer st y.state)))
    (λ (y : Done). if_other lams s y.state at test (the_tree at y.trees) b)
both_then lams s st at test b (Ok d) = part_then (and_then (statement_of lams s (inner (outer st d.state)) b) (a_part s b)) at (outer st d.state)
    (λ (t : Tree) (u : State). done (one (statement forms.Conditional at (three test (the_tree at d.trees) t))) u)
both_then lams s st at test b (Err e) = refl

pub if_both_is : (lams : Lambdas) (s : List Lexeme) (st : State) (p : SyntaxAt) (token : Option ℕ) (e a b : syntax.Tree)
    → statement_of lams s st (syntax.node k.IfStatement p token (syntax.more e (syntax.more a (syntax.more b syntax.none))))
    ≡ and_then (condition lams s st e) (λ (x : Done). if_both lams s x.state (at_of p) (the_tree (at_of p) x.trees) a b)
if_both_is lams s st p token e a b = then_same (condition lams s st e) _ _
    (λ (x : Done). both_then lams s x.state (at_of p) (the_tree (at_of p) x.trees) b (and_then (statement_of lams s (inner x.state) a) (a_part s a)))

pub while_is : (lams : Lambdas) (s : List Lexeme) (st : State) (p : SyntaxAt) (token : Option ℕ) (e a : syntax.Tree)
    → statement_of lams s st (syntax.node k.WhileStatement p token (syntax.more e (syntax.more a syntax.none)))
    ≡ and_then (condition lams s st e) (λ (x : Done). while_body lams s x.state (at_of p) (the_tree (at_of p) x.trees) a)
while_is lams s st p token e a = then_same (condition lams s st e) _ _
    (λ (x : Done). part_then (and_then (statement_of lams s (in_loop x.state) a) (a_part s a)) (at_of p) x.state
    (λ (t : Tree) (u : State). done (one (statement (forms.Loop true) (at_of p) (three (the_tree (at_of p) x.trees) t (block (at_of p) none)))) u))

pub do_is : (lams : Lambdas) (s : List Lexeme) (st : State) (p : SyntaxAt) (token : Option ℕ) (a e : syntax.Tree)
    → statement_of lams s st (syntax.node k.DoStatement p token (syntax.more a (syntax.more e syntax.none)))
    ≡ and_then (loop_part lams s st (at_of p) a) (λ (y : Done). do_test lams s y.state (at_of p) (the_tree (at_of p) y.trees) e)
do_is lams s st p token a e = part_then (and_then (statement_of lams s (in_loop st) a) (a_part s a)) (at_of p) st
    (λ (t : Tree) (u : State). do_test lams s u (at_of p) t e)

pub switch_is : (lams : Lambdas) (s : List Lexeme) (st : State) (p : SyntaxAt) (token : Option ℕ) (e b : syntax.Tree)
    → statement_of lams s st (syntax.node k.SwitchStatement p token (syntax.more e (syntax.more b syntax.none)))
    ≡ and_then (switched lams s st e) (λ (v : Switched). switch_body lams s (at_of p) v b)
switch_is lams s st p token e (syntax.node kind q brace kids) = refl

tried_then : (x : Result Done ElabFault) (at q : At) (st : State) (g : Tree → State → Result Done ElabFault)
    → and_then x (λ (d : Done). g (block q d.trees) (outer st d.state))
    ≡ and_then (and_then (and_then x (λ (d : Done). done (one (block q d.trees)) d.state)) (λ (d : Done). done d.trees (outer st d.state)))
    (λ (y : Done). g (the_tree at y.trees) y.state)
tried_then (Ok d) at q st g = refl
tried_then (Err e) at q st g = refl

pub try_is : (lams : Lambdas) (s : List Lexeme) (st : State) (p : SyntaxAt) (token : Option ℕ) (b : syntax.Tree) (hs : syntax.Trees)
    → statement_of lams s st (syntax.node k.TryBlock p token (syntax.more b hs))
    ≡ and_then (tried lams s st b) (λ (y : Done). try_handlers lams s y.state (at_of p) (the_tree (at_of p) y.trees) hs)
try_is lams s st p token (syntax.node kind q brace kids) hs =
    tried_then (statements_of lams s (inner st) kids) (at_of p) (at_of q) st (λ (t : Tree) (u : State). try_handlers lams s u (at_of p) t hs)

-- `for`

pub then_then : {A B C : Type 0} (x : Result A ElabFault) (f : A → Result B ElabFault) (g : B → Result C ElabFault)
    → and_then (and_then x f) g ≡ and_then x (λ (a : A). and_then (f a) g)
then_then (Ok a) f g = refl
then_then (Err e) f g = refl

abbrev pub back : State → Done → Result Done ElabFault
back st y = done y.trees (outer st y.state)

last_body : (x : Result Done ElabFault) (at q : At) (st : State) (g : Tree → Tree)
    → and_then (and_then (and_then x (λ (d : Done). done (one (block q d.trees)) d.state)) (λ (y : Done). done (one (g (the_tree at y.trees))) y.state))
    (back st) ≡ and_then x (λ (y : Done). done (one (g (block q y.trees))) (outer st y.state))
last_body (Ok d) at q st g = refl
last_body (Err e) at q st g = refl

last_part : (x : Result Done ElabFault) (at : At) (st : State) (g : Tree → Tree)
    → and_then (and_then (and_then x (λ (y : Done). done (one (the_tree at y.trees)) y.state)) (λ (y : Done). done (one (g (the_tree at y.trees))) y.state))
    (back st) ≡ and_then x (λ (y : Done). done (one (g (the_tree at y.trees))) (outer st y.state))
last_part (Ok d) at st g = refl
last_part (Err e) at st g = refl

pub for_is : (lams : Lambdas) (s : List Lexeme) (st : State) (p : SyntaxAt) (token : Option ℕ) (i e n a : syntax.Tree)
    → statement_of lams s st (syntax.node k.ForStatement p token (syntax.more i (syntax.more e (syntax.more n (syntax.more a syntax.none)))))
    ≡ and_then (for_inside lams s (in_loop st) (at_of p) i e n a) (λ (y : Done). done y.trees (outer st y.state))
for_is lams s st p token i e n (syntax.node k.CompoundStatement q brace kids) = sym (
    then_then (for_first lams s (in_loop st) i) (λ (f : Done). for_tested lams s f.state (at_of p) f.trees e n (syntax.node k.CompoundStatement q brace kids))
    (back st)
    ∙ then_same (for_first lams s (in_loop st) i) _ _
    (λ (f : Done). then_then (for_test lams s f.state (at_of p) e)
    (λ (x : Done). for_stepped lams s x.state (at_of p) f.trees (the_tree (at_of p) x.trees) n (syntax.node k.CompoundStatement q brace kids)) (back st)
    ∙ then_same (for_test lams s f.state (at_of p) e) _ _
    (λ (x : Done). then_then (for_step lams s x.state (at_of p) n)
    (λ (z : Done). for_last lams s z.state (at_of p) f.trees (the_tree (at_of p) x.trees) (the_tree (at_of p) z.trees)
    (syntax.node k.CompoundStatement q brace kids)) (back st)
    ∙ then_same (for_step lams s x.state (at_of p) n) _ _
    (λ (z : Done). last_body (statements_of lams s z.state kids) (at_of p) (at_of q) st
    (λ (t : Tree). for_loop (at_of p) f.trees (the_tree (at_of p) x.trees) t (the_tree (at_of p) z.trees))))))
for_is lams s st p token i e n (syntax.node kind q brace kids) = sym (
    then_then (for_first lams s (in_loop st) i) (λ (f : Done). for_tested lams s f.state (at_of p) f.trees e n (syntax.node kind q brace kids)) (back st)
    ∙ then_same (for_first lams s (in_loop st) i) _ _
    (λ (f : Done). then_then (for_test lams s f.state (at_of p) e)
    (λ (x : Done). for_stepped lams s x.state (at_of p) f.trees (the_tree (at_of p) x.trees) n (syntax.node kind q brace kids)) (back st)
    ∙ then_same (for_test lams s f.state (at_of p) e) _ _
    (λ (x : Done). then_then (for_step lams s x.state (at_of p) n)
    (λ (z : Done). for_last lams s z.state (at_of p) f.trees (the_tree (at_of p) x.trees) (the_tree (at_of p) z.trees) (syntax.node kind q brace kids))
    (back st)
    ∙ then_same (for_step lams s x.state (at_of p) n) _ _
    (λ (z : Done). last_part (and_then (statement_of lams s z.state (syntax.node kind q brace kids)) (a_part s (syntax.node kind q brace kids)))
    (at_of p) st (λ (t : Tree). for_loop (at_of p) f.trees (the_tree (at_of p) x.trees) t (the_tree (at_of p) z.trees))))))

-- handlers

handler_then : (x : Result Done ElabFault) (at q : At) (h : Caught) (st : State) (f : State → Result Done ElabFault)
    → and_then (and_then (and_then (and_then x (λ (d : Done). done (one (block q d.trees)) d.state))
    (λ (d : Done). done (one (handler_node at h.place h.typ (the_tree at d.trees) h.fields)) d.state)) (back st))
    (λ (d : Done). and_then (f d.state) (λ (r : Done). Ok (joined d r)))
    ≡ and_then x (λ (d : Done). and_then (f (outer st d.state))
    (λ (r : Done). done (more (handler_node at h.place h.typ (block q d.trees) h.fields) r.trees) r.state))
handler_then (Ok d) at q h st f = refl
handler_then (Err e) at q h st f = refl

pub handler_is : (lams : Lambdas) (s : List Lexeme) (st : State) (kind : NodeKind) (p : SyntaxAt) (token : Option ℕ) (x b : syntax.Tree) (hs : syntax.Trees)
    → handlers_of lams s st (syntax.more (syntax.node kind p token (syntax.more x (syntax.more b syntax.none))) hs)
    ≡ and_then (handler_if lams s st (is_last hs) (syntax.node kind p token (syntax.more x (syntax.more b syntax.none))))
    (λ (d : Done). and_then (handlers_of lams s d.state hs) (λ (r : Done). Ok (joined d r)))
handler_is lams s st kind p token x (syntax.node m q brace kids) hs =
    let rest : Done → Result Done ElabFault = λ d. and_then (handlers_of lams s d.state hs) (λ (r : Done). Ok (joined d r)) in
    let b : syntax.Tree = syntax.node m q brace kids in
    sym (then_then (check (at_of p) BadCatch (not (is_ellipsis x) || is_last hs)) (λ y. handler_of lams s st (at_of p) x b) rest
    ∙ then_same (check (at_of p) BadCatch (not (is_ellipsis x) || is_last hs)) _ _ (λ y.
    ap (λ (z : Result Done ElabFault). and_then z rest)
    (then_then (handler_type s (inner st) (at_of p) x) (λ (h : Caught). handler_body lams s h (at_of p) b) (back st))
    ∙ then_then (handler_type s (inner st) (at_of p) x) (λ (h : Caught). and_then (handler_body lams s h (at_of p) b) (back st)) rest
    ∙ then_same (handler_type s (inner st) (at_of p) x) _ _
    (λ (h : Caught). handler_then (statements_of lams s h.state kids) (at_of p) (at_of q) h st (λ (u : State). handlers_of lams s u hs))))
