-- The rows of the recursion for a node that was read: its kind and its kids are known by equations.
use Rattle.std.proofs.Common.{◌≡◌, ◌≢◌, ◌<◌, ◌≤◌, ◌+◌, ◌==◌, ◌∷◌, [], length, drop, get_or, arith, length-drop, true, false, not, ◌||◌, Bool, ℕ, List, Option}
use Rattle.std.proofs.Common.{Some, None, Result, Ok, Err, refl, ap, sym, ◌∙◌}
use Rattle.std.proofs.lemmas.Bool.{eq-eqb, eqb-true}
use Rattle.elab_locals.specs.cpp_lex.Tokens.{Lexeme}
use Rattle.elab_locals.specs.cpp_types.declared.classes.At.{At}
use Rattle.elab_locals.specs.cpp_ast.declared.arena.At.{At as SyntaxAt}
use Rattle.elab_locals.specs.cpp_ast.declared.arena.NodeId.{NodeId}
use Rattle.elab_locals.specs.cpp_ast.declared.kinds.NodeKind.{NodeKind}
use Rattle.elab_locals.specs.cpp_ast.declared.kinds.NodeKind.TheVariants as k
use Rattle.elab_locals.specs.cpp_ast.Trees as syntax
use Rattle.elab_locals.specs.cpp_tree.declared.faults.ElabFault.{ElabFault}
use Rattle.elab_locals.specs.cpp_tree.declared.faults.ElabFault.TheVariants.{Ill}
use Rattle.elab_locals.specs.cpp_tree.declared.faults.IllRule.TheVariants.{BadCatch, OutOfProfile}
use Rattle.elab_locals.specs.cpp_tree.declared.kinds.TKind.{TKind}
use Rattle.elab_locals.specs.cpp_tree.declared.kinds.TKind.TheVariants as forms
use Rattle.elab_locals.specs.cpp_tree.Trees.{Tree, Trees, none, one}
use Rattle.elab_locals.specs.elab_ctx.Steps.{and_then, check, at_of, spelling}
use Rattle.elab_locals.specs.elab_rules.Statements.{Lambdas, State, Done, Switched, done, block, the_tree, condition, switched, inner, in_loop, in_block, outer}
use Rattle.elab_locals.specs.elab_rules.Statements.{block_kind, joined, statement_of, statements_of, block_declaration, expression_statement, case_label}
use Rattle.elab_locals.specs.elab_rules.Statements.{default_label, jump, returned, is_ellipsis, is_last, handlers_of}
use Rattle.elab_stmt.specs.Parts.{is_single, is_compound, body_of, part_of, loop_part, if_short, if_long, while_body, do_test, guarded, tried, try_handlers}
use Rattle.elab_stmt.specs.Parts.{switch_body, for_inside, for_inside_kids, for_body, handler_if, handler_of}
use Rattle.elab_stmt.proofs.Forms.{compound_is, if_alone_is, if_both_is, while_is, do_is, switch_is, synchronized_is, atomic_is, try_is, for_is, back}
use Rattle.elab_stmt.proofs.Forms.{handler_is}
use Rattle.elab_locals.proofs.elab_expr.Several.{trees_step}
use Rattle.elab_locals.specs.elab_types.Syntax.{tree_at, trees_at}

pub shape : (x : syntax.Tree) (kind k0 : NodeKind) (p : SyntaxAt) (token : Option ℕ) (us vs : syntax.Trees) → x ≡ syntax.node kind p token us
    → syntax.kind_of x ≡ k0 → us ≡ vs → x ≡ syntax.node k0 p token vs
shape x kind k0 p token us vs e h f = e ∙ ap (λ (z : NodeKind). syntax.node z p token us) (sym (ap syntax.kind_of e) ∙ h) ∙ ap (syntax.node k0 p token) f

pub declaration_row : (lams : Lambdas) (s : List Lexeme) (st : State) (x : syntax.Tree) (kind : NodeKind) (p : SyntaxAt) (at : At) (token : Option ℕ)
    (us : syntax.Trees) (ds : syntax.Trees) → x ≡ syntax.node kind p token us → syntax.kind_of x ≡ k.SimpleDeclaration → us ≡ ds → at ≡ at_of p
    → statement_of lams s st x ≡ block_declaration lams s st at ds
declaration_row lams s st x kind p at token us ds e h f n = ap (statement_of lams s st) (shape x kind k.SimpleDeclaration p token us ds e h f) ∙ refl
    ∙ ap (λ (z : At). block_declaration lams s st z ds) (sym n)

pub null_row : (lams : Lambdas) (s : List Lexeme) (st : State) (x : syntax.Tree) (kind : NodeKind) (p : SyntaxAt) (at : At) (token : Option ℕ)
    (us : syntax.Trees) → x ≡ syntax.node kind p token us → syntax.kind_of x ≡ k.NullStatement → us ≡ us → at ≡ at_of p
    → statement_of lams s st x ≡ done (one (block at none)) st
null_row lams s st x kind p at token us e h f n = ap (statement_of lams s st) (shape x kind k.NullStatement p token us us e h f) ∙ refl
    ∙ ap (λ (z : At). done (one (block z none)) st) (sym n)

pub expression_row : (lams : Lambdas) (s : List Lexeme) (st : State) (x : syntax.Tree) (kind : NodeKind) (p : SyntaxAt) (at : At) (token : Option ℕ)
    (us : syntax.Trees) (y : syntax.Tree) → x ≡ syntax.node kind p token us → syntax.kind_of x ≡ k.ExpressionStatement → us ≡ (syntax.more y syntax.none)
    → at ≡ at_of p → statement_of lams s st x ≡ expression_statement lams s st y
expression_row lams s st x kind p at token us y e h f n =
    ap (statement_of lams s st) (shape x kind k.ExpressionStatement p token us (syntax.more y syntax.none) e h f) ∙ refl
    ∙ ap (λ (z : At). expression_statement lams s st y) (sym n)

pub if_short_row : (lams : Lambdas) (s : List Lexeme) (st : State) (x : syntax.Tree) (kind : NodeKind) (p : SyntaxAt) (at : At) (token : Option ℕ)
    (us : syntax.Trees) (y z : syntax.Tree) → x ≡ syntax.node kind p token us → syntax.kind_of x ≡ k.IfStatement
    → us ≡ (syntax.more y (syntax.more z syntax.none)) → at ≡ at_of p → statement_of lams s st x ≡ if_short lams s st at y z
if_short_row lams s st x kind p at token us y z e h f n =
    ap (statement_of lams s st) (shape x kind k.IfStatement p token us (syntax.more y (syntax.more z syntax.none)) e h f) ∙ if_alone_is lams s st p token y z
    ∙ ap (λ (w : At). if_short lams s st w y z) (sym n)

pub if_long_row : (lams : Lambdas) (s : List Lexeme) (st : State) (x : syntax.Tree) (kind : NodeKind) (p : SyntaxAt) (at : At) (token : Option ℕ)
    (us : syntax.Trees) (y u v : syntax.Tree) → x ≡ syntax.node kind p token us → syntax.kind_of x ≡ k.IfStatement
    → us ≡ (syntax.more y (syntax.more u (syntax.more v syntax.none))) → at ≡ at_of p → statement_of lams s st x ≡ if_long lams s st at y u v
if_long_row lams s st x kind p at token us y u v e h f n =
    ap (statement_of lams s st) (shape x kind k.IfStatement p token us (syntax.more y (syntax.more u (syntax.more v syntax.none))) e h f)
    ∙ if_both_is lams s st p token y u v ∙ ap (λ (z : At). if_long lams s st z y u v) (sym n)

pub while_row : (lams : Lambdas) (s : List Lexeme) (st : State) (x : syntax.Tree) (kind : NodeKind) (p : SyntaxAt) (at : At) (token : Option ℕ)
    (us : syntax.Trees) (y u : syntax.Tree) → x ≡ syntax.node kind p token us → syntax.kind_of x ≡ k.WhileStatement
    → us ≡ (syntax.more y (syntax.more u syntax.none)) → at ≡ at_of p
    → statement_of lams s st x ≡ and_then (condition lams s st y) (λ (d : Done). while_body lams s d.state at (the_tree at d.trees) u)
while_row lams s st x kind p at token us y u e h f n =
    ap (statement_of lams s st) (shape x kind k.WhileStatement p token us (syntax.more y (syntax.more u syntax.none)) e h f) ∙ while_is lams s st p token y u
    ∙ ap (λ (z : At). and_then (condition lams s st y) (λ (d : Done). while_body lams s d.state z (the_tree z d.trees) u)) (sym n)

pub do_row : (lams : Lambdas) (s : List Lexeme) (st : State) (x : syntax.Tree) (kind : NodeKind) (p : SyntaxAt) (at : At) (token : Option ℕ) (us : syntax.Trees)
    (u y : syntax.Tree) → x ≡ syntax.node kind p token us → syntax.kind_of x ≡ k.DoStatement → us ≡ (syntax.more u (syntax.more y syntax.none)) → at ≡ at_of p
    → statement_of lams s st x ≡ and_then (loop_part lams s st at u) (λ (d : Done). do_test lams s d.state at (the_tree at d.trees) y)
do_row lams s st x kind p at token us u y e h f n = ap (statement_of lams s st)
    (shape x kind k.DoStatement p token us (syntax.more u (syntax.more y syntax.none)) e h f) ∙ do_is lams s st p token u y
    ∙ ap (λ (z : At). and_then (loop_part lams s st z u) (λ (d : Done). do_test lams s d.state z (the_tree z d.trees) y)) (sym n)

pub switch_row : (lams : Lambdas) (s : List Lexeme) (st : State) (x : syntax.Tree) (kind : NodeKind) (p : SyntaxAt) (at : At) (token : Option ℕ)
    (us : syntax.Trees) (y u : syntax.Tree) → x ≡ syntax.node kind p token us → syntax.kind_of x ≡ k.SwitchStatement
    → us ≡ (syntax.more y (syntax.more u syntax.none)) → at ≡ at_of p
    → statement_of lams s st x ≡ and_then (switched lams s st y) (λ (d : Switched). switch_body lams s at d u)
switch_row lams s st x kind p at token us y u e h f n =
    ap (statement_of lams s st) (shape x kind k.SwitchStatement p token us (syntax.more y (syntax.more u syntax.none)) e h f) ∙ switch_is lams s st p token y u
    ∙ ap (λ (z : At). and_then (switched lams s st y) (λ (d : Switched). switch_body lams s z d u)) (sym n)

pub synchronized_row : (lams : Lambdas) (s : List Lexeme) (st : State) (x : syntax.Tree) (kind : NodeKind) (p : SyntaxAt) (at : At) (token : Option ℕ)
    (us : syntax.Trees) (u : syntax.Tree) → x ≡ syntax.node kind p token us → syntax.kind_of x ≡ k.SynchronizedStatement → us ≡ (syntax.more u syntax.none)
    → at ≡ at_of p → statement_of lams s st x ≡ guarded lams s st at forms.Synchronized u
synchronized_row lams s st x kind p at token us u e h f n =
    ap (statement_of lams s st) (shape x kind k.SynchronizedStatement p token us (syntax.more u syntax.none) e h f) ∙ synchronized_is lams s st p token u
    ∙ ap (λ (z : At). guarded lams s st z forms.Synchronized u) (sym n)

pub try_row : (lams : Lambdas) (s : List Lexeme) (st : State) (x : syntax.Tree) (kind : NodeKind) (p : SyntaxAt) (at : At) (token : Option ℕ)
    (us : syntax.Trees) (u : syntax.Tree) (hs : syntax.Trees) → x ≡ syntax.node kind p token us → syntax.kind_of x ≡ k.TryBlock → us ≡ (syntax.more u hs)
    → at ≡ at_of p → statement_of lams s st x ≡ and_then (tried lams s st u) (λ (d : Done). try_handlers lams s d.state at (the_tree at d.trees) hs)
try_row lams s st x kind p at token us u hs e h f n = ap (statement_of lams s st) (shape x kind k.TryBlock p token us (syntax.more u hs) e h f)
    ∙ try_is lams s st p token u hs ∙ ap (λ (z : At). and_then (tried lams s st u) (λ (d : Done). try_handlers lams s d.state z (the_tree z d.trees) hs))
    (sym n)

pub case_row : (lams : Lambdas) (s : List Lexeme) (st : State) (x : syntax.Tree) (kind : NodeKind) (p : SyntaxAt) (at : At) (token : Option ℕ)
    (us : syntax.Trees) (y u : syntax.Tree) → x ≡ syntax.node kind p token us → syntax.kind_of x ≡ k.CaseStatement
    → us ≡ (syntax.more y (syntax.more u syntax.none)) → at ≡ at_of p
    → statement_of lams s st x ≡ and_then (case_label s st at y) (λ (d : Done). and_then (statement_of lams s d.state u) (λ (w : Done). Ok (joined d w)))
case_row lams s st x kind p at token us y u e h f n =
    ap (statement_of lams s st) (shape x kind k.CaseStatement p token us (syntax.more y (syntax.more u syntax.none)) e h f) ∙ refl
    ∙ ap (λ (z : At). and_then (case_label s st z y) (λ (d : Done). and_then (statement_of lams s d.state u) (λ (w : Done). Ok (joined d w)))) (sym n)

pub default_row : (lams : Lambdas) (s : List Lexeme) (st : State) (x : syntax.Tree) (kind : NodeKind) (p : SyntaxAt) (at : At) (token : Option ℕ)
    (us : syntax.Trees) (u : syntax.Tree) → x ≡ syntax.node kind p token us → syntax.kind_of x ≡ k.DefaultStatement → us ≡ (syntax.more u syntax.none)
    → at ≡ at_of p → statement_of lams s st x ≡ and_then (default_label st at)
    (λ (d : Done). and_then (statement_of lams s d.state u) (λ (w : Done). Ok (joined d w)))
default_row lams s st x kind p at token us u e h f n =
    ap (statement_of lams s st) (shape x kind k.DefaultStatement p token us (syntax.more u syntax.none) e h f) ∙ refl
    ∙ ap (λ (z : At). and_then (default_label st z) (λ (d : Done). and_then (statement_of lams s d.state u) (λ (w : Done). Ok (joined d w)))) (sym n)

pub break_row : (lams : Lambdas) (s : List Lexeme) (st : State) (x : syntax.Tree) (kind : NodeKind) (p : SyntaxAt) (at : At) (token : Option ℕ)
    (us : syntax.Trees) → x ≡ syntax.node kind p token us → syntax.kind_of x ≡ k.BreakStatement → us ≡ us → at ≡ at_of p
    → statement_of lams s st x ≡ jump st.ctx.breaks forms.Break st at
break_row lams s st x kind p at token us e h f n = ap (statement_of lams s st) (shape x kind k.BreakStatement p token us us e h f) ∙ refl
    ∙ ap (λ (z : At). jump st.ctx.breaks forms.Break st z) (sym n)

pub continue_row : (lams : Lambdas) (s : List Lexeme) (st : State) (x : syntax.Tree) (kind : NodeKind) (p : SyntaxAt) (at : At) (token : Option ℕ)
    (us : syntax.Trees) → x ≡ syntax.node kind p token us → syntax.kind_of x ≡ k.ContinueStatement → us ≡ us → at ≡ at_of p
    → statement_of lams s st x ≡ jump st.ctx.continues forms.Continue st at
continue_row lams s st x kind p at token us e h f n = ap (statement_of lams s st) (shape x kind k.ContinueStatement p token us us e h f) ∙ refl
    ∙ ap (λ (z : At). jump st.ctx.continues forms.Continue st z) (sym n)

pub return_row : (lams : Lambdas) (s : List Lexeme) (st : State) (x : syntax.Tree) (kind : NodeKind) (p : SyntaxAt) (at : At) (token : Option ℕ)
    (us : syntax.Trees) (ds : syntax.Trees) → x ≡ syntax.node kind p token us → syntax.kind_of x ≡ k.ReturnStatement → us ≡ ds → at ≡ at_of p
    → statement_of lams s st x ≡ returned lams s st at ds
return_row lams s st x kind p at token us ds e h f n = ap (statement_of lams s st) (shape x kind k.ReturnStatement p token us ds e h f) ∙ refl
    ∙ ap (λ (z : At). returned lams s st z ds) (sym n)

pub atomic_row : (lams : Lambdas) (s : List Lexeme) (st : State) (x : syntax.Tree) (kind : NodeKind) (p : SyntaxAt) (at : At) (token : Option ℕ)
    (us : syntax.Trees) (t : ℕ) (u : syntax.Tree) → x ≡ syntax.node kind p token us → syntax.kind_of x ≡ k.AtomicStatement → us ≡ (syntax.more u syntax.none)
    → at ≡ at_of p → token ≡ Some t → statement_of lams s st x ≡ guarded lams s st at (forms.Atomic (block_kind (spelling s t))) u
atomic_row lams s st x kind p at token us t u e h f n m =
    ap (statement_of lams s st) (shape x kind k.AtomicStatement p token us (syntax.more u syntax.none) e h f)
    ∙ ap (λ (z : Option ℕ). statement_of lams s st (syntax.node k.AtomicStatement p z (syntax.more u syntax.none))) m ∙ atomic_is lams s st p t u
    ∙ ap (λ (z : At). guarded lams s st z (forms.Atomic (block_kind (spelling s t))) u) (sym n)

pub compound_row : (lams : Lambdas) (s : List Lexeme) (st : State) (x : syntax.Tree) (kind : NodeKind) (p : SyntaxAt) (token : Option ℕ) (us : syntax.Trees)
    → x ≡ syntax.node kind p token us → syntax.kind_of x ≡ k.CompoundStatement → statement_of lams s st x ≡ and_then (body_of lams s (inner st) x) (back st)
compound_row lams s st x kind p token us e h =
    let n : x ≡ syntax.node k.CompoundStatement p token us = shape x kind k.CompoundStatement p token us us e h refl in
    ap (statement_of lams s st) n ∙ compound_is lams s st p token us ∙ ap (λ (z : syntax.Tree). and_then (body_of lams s (inner st) z) (back st)) (sym n)

-- a `for` by its kids

for_kids : (lams : Lambdas) (s : List Lexeme) (st : State) (p : SyntaxAt) (token : Option ℕ) (us : syntax.Trees)
    → statement_of lams s st (syntax.node k.ForStatement p token us)
    ≡ and_then (for_inside_kids lams s (in_loop st) (syntax.node k.ForStatement p token us)) (back st)
for_kids lams s st p token syntax.none = refl
for_kids lams s st p token (syntax.more i syntax.none) = refl
for_kids lams s st p token (syntax.more i (syntax.more e syntax.none)) = refl
for_kids lams s st p token (syntax.more i (syntax.more e (syntax.more n syntax.none))) = refl
for_kids lams s st p token (syntax.more i (syntax.more e (syntax.more n (syntax.more a syntax.none)))) = for_is lams s st p token i e n a
for_kids lams s st p token (syntax.more i (syntax.more e (syntax.more n (syntax.more (syntax.node k.CompoundStatement q brace kids) (syntax.more b us))))) =
    refl
for_kids lams s st p token (syntax.more i (syntax.more e (syntax.more n (syntax.more (syntax.node kind q brace kids) (syntax.more b us))))) = refl

pub for_row : (lams : Lambdas) (s : List Lexeme) (st : State) (x : syntax.Tree) (kind : NodeKind) (p : SyntaxAt) (token : Option ℕ) (us : syntax.Trees)
    → x ≡ syntax.node kind p token us → syntax.kind_of x ≡ k.ForStatement
    → statement_of lams s st x ≡ and_then (for_inside_kids lams s (in_loop st) x) (back st)
for_row lams s st x kind p token us e h =
    let n : x ≡ syntax.node k.ForStatement p token us = shape x kind k.ForStatement p token us us e h refl in
    ap (statement_of lams s st) n ∙ for_kids lams s st p token us ∙ ap (λ (z : syntax.Tree). and_then (for_inside_kids lams s (in_loop st) z) (back st)) (sym n)

pub for_inside_row : (lams : Lambdas) (s : List Lexeme) (st : State) (x : syntax.Tree) (kind : NodeKind) (p : SyntaxAt) (at : At) (token : Option ℕ)
    (us : syntax.Trees) (i e n a : syntax.Tree) → x ≡ syntax.node kind p token us
    → us ≡ syntax.more i (syntax.more e (syntax.more n (syntax.more a syntax.none))) → at ≡ at_of p
    → for_inside_kids lams s st x ≡ for_inside lams s st at i e n a
for_inside_row lams s st x kind p at token us i e n a h f m = ap (for_inside_kids lams s st) (h ∙ ap (syntax.node kind p token) f)
    ∙ ap (λ (z : At). for_inside lams s st z i e n a) (sym m)

pub for_body_compound : (lams : Lambdas) (s : List Lexeme) (st : State) (at : At) (x : syntax.Tree) (kind : NodeKind) (p : SyntaxAt) (token : Option ℕ)
    (us : syntax.Trees) → x ≡ syntax.node kind p token us → kind ≡ k.CompoundStatement → for_body lams s st at x ≡ body_of lams s st x
for_body_compound lams s st at x kind p token us e h =
    let n : x ≡ syntax.node k.CompoundStatement p token us = e ∙ ap (λ (z : NodeKind). syntax.node z p token us) h in
    ap (for_body lams s st at) n ∙ ap (body_of lams s st) (sym n)

for_body_kind : (lams : Lambdas) (s : List Lexeme) (st : State) (at : At) (kind : NodeKind) (p : SyntaxAt) (token : Option ℕ) (us : syntax.Trees)
    → kind ≢ k.CompoundStatement → for_body lams s st at (syntax.node kind p token us) ≡ part_of lams s st at (syntax.node kind p token us)
for_body_kind lams s st at k.CompoundStatement p token us h = absurd (h refl)
for_body_kind lams s st at kind p token us h = refl

pub for_body_part : (lams : Lambdas) (s : List Lexeme) (st : State) (at : At) (x : syntax.Tree) (kind : NodeKind) (p : SyntaxAt) (token : Option ℕ)
    (us : syntax.Trees) → x ≡ syntax.node kind p token us → kind ≢ k.CompoundStatement → for_body lams s st at x ≡ part_of lams s st at x
for_body_part lams s st at x kind p token us e h = ap (for_body lams s st at) e ∙ for_body_kind lams s st at kind p token us h
    ∙ ap (part_of lams s st at) (sym e)

-- handlers

pub handler_if_row : (lams : Lambdas) (s : List Lexeme) (st : State) (last : Bool) (x : syntax.Tree) (kind : NodeKind) (p : SyntaxAt) (at : At)
    (token : Option ℕ) (us : syntax.Trees) (y b : syntax.Tree) (stands : Bool) → x ≡ syntax.node kind p token us
    → us ≡ syntax.more y (syntax.more b syntax.none) → at ≡ at_of p → stands ≡ (not (is_ellipsis y) || last)
    → handler_if lams s st last x ≡ and_then (check at BadCatch stands) (λ w. handler_of lams s st at y b)
handler_if_row lams s st last x kind p at token us y b stands e f n m = ap (handler_if lams s st last) (e ∙ ap (syntax.node kind p token) f)
    ∙ ap (λ (z : At). and_then (check z BadCatch (not (is_ellipsis y) || last)) (λ w. handler_of lams s st z y b)) (sym n)
    ∙ ap (λ (z : Bool). and_then (check at BadCatch z) (λ w. handler_of lams s st at y b)) (sym m)

-- kinds

pub single_kind : (kind : NodeKind) → kind ≢ k.SimpleDeclaration → kind ≢ k.CaseStatement → kind ≢ k.DefaultStatement → is_single kind ≡ true
single_kind k.SimpleDeclaration a b c = absurd (a refl)
single_kind k.CaseStatement a b c = absurd (b refl)
single_kind k.DefaultStatement a b c = absurd (c refl)
single_kind kind a b c = refl

pub single_tree : (x : syntax.Tree) (kind : NodeKind) (p : SyntaxAt) (token : Option ℕ) (us : syntax.Trees) → x ≡ syntax.node kind p token us
    → kind ≢ k.SimpleDeclaration → kind ≢ k.CaseStatement → kind ≢ k.DefaultStatement → is_single (syntax.kind_of x) ≡ true
single_tree x kind p token us e a b c = ap (λ (z : syntax.Tree). is_single (syntax.kind_of z)) e ∙ single_kind kind a b c

other_kind : (lams : Lambdas) (s : List Lexeme) (st : State) (kind : NodeKind) (p : SyntaxAt) (token : Option ℕ) (us : syntax.Trees) → is_single kind ≡ true
    → kind ≢ k.CompoundStatement → kind ≢ k.NullStatement → kind ≢ k.ExpressionStatement → kind ≢ k.IfStatement → kind ≢ k.WhileStatement → kind ≢ k.DoStatement
    → kind ≢ k.ForStatement → kind ≢ k.SwitchStatement → kind ≢ k.BreakStatement → kind ≢ k.ContinueStatement → kind ≢ k.ReturnStatement → kind ≢ k.TryBlock
    → kind ≢ k.SynchronizedStatement → kind ≢ k.AtomicStatement → statement_of lams s st (syntax.node kind p token us) ≡ Err (Ill (at_of p) OutOfProfile)
other_kind lams s st k.SimpleDeclaration p token us w h0 h1 h2 h3 h4 h5 h6 h7 h8 h9 h10 h11 h12 h13 = absurd cc
other_kind lams s st k.CaseStatement p token us w h0 h1 h2 h3 h4 h5 h6 h7 h8 h9 h10 h11 h12 h13 = absurd cc
other_kind lams s st k.DefaultStatement p token us w h0 h1 h2 h3 h4 h5 h6 h7 h8 h9 h10 h11 h12 h13 = absurd cc
other_kind lams s st k.CompoundStatement p token us w h0 h1 h2 h3 h4 h5 h6 h7 h8 h9 h10 h11 h12 h13 = absurd (h0 refl)
other_kind lams s st k.NullStatement p token us w h0 h1 h2 h3 h4 h5 h6 h7 h8 h9 h10 h11 h12 h13 = absurd (h1 refl)
other_kind lams s st k.ExpressionStatement p token us w h0 h1 h2 h3 h4 h5 h6 h7 h8 h9 h10 h11 h12 h13 = absurd (h2 refl)
other_kind lams s st k.IfStatement p token us w h0 h1 h2 h3 h4 h5 h6 h7 h8 h9 h10 h11 h12 h13 = absurd (h3 refl)
other_kind lams s st k.WhileStatement p token us w h0 h1 h2 h3 h4 h5 h6 h7 h8 h9 h10 h11 h12 h13 = absurd (h4 refl)
other_kind lams s st k.DoStatement p token us w h0 h1 h2 h3 h4 h5 h6 h7 h8 h9 h10 h11 h12 h13 = absurd (h5 refl)
other_kind lams s st k.ForStatement p token us w h0 h1 h2 h3 h4 h5 h6 h7 h8 h9 h10 h11 h12 h13 = absurd (h6 refl)
other_kind lams s st k.SwitchStatement p token us w h0 h1 h2 h3 h4 h5 h6 h7 h8 h9 h10 h11 h12 h13 = absurd (h7 refl)
other_kind lams s st k.BreakStatement p token us w h0 h1 h2 h3 h4 h5 h6 h7 h8 h9 h10 h11 h12 h13 = absurd (h8 refl)
other_kind lams s st k.ContinueStatement p token us w h0 h1 h2 h3 h4 h5 h6 h7 h8 h9 h10 h11 h12 h13 = absurd (h9 refl)
other_kind lams s st k.ReturnStatement p token us w h0 h1 h2 h3 h4 h5 h6 h7 h8 h9 h10 h11 h12 h13 = absurd (h10 refl)
other_kind lams s st k.TryBlock p token us w h0 h1 h2 h3 h4 h5 h6 h7 h8 h9 h10 h11 h12 h13 = absurd (h11 refl)
other_kind lams s st k.SynchronizedStatement p token us w h0 h1 h2 h3 h4 h5 h6 h7 h8 h9 h10 h11 h12 h13 = absurd (h12 refl)
other_kind lams s st k.AtomicStatement p token us w h0 h1 h2 h3 h4 h5 h6 h7 h8 h9 h10 h11 h12 h13 = absurd (h13 refl)
other_kind lams s st kind p token us w h0 h1 h2 h3 h4 h5 h6 h7 h8 h9 h10 h11 h12 h13 = refl

pub other_row : (lams : Lambdas) (s : List Lexeme) (st : State) (x : syntax.Tree) (kind : NodeKind) (p : SyntaxAt) (at : At) (token : Option ℕ)
    (us : syntax.Trees) → x ≡ syntax.node kind p token us → is_single (syntax.kind_of x) ≡ true → at ≡ at_of p → kind ≢ k.CompoundStatement
    → kind ≢ k.NullStatement → kind ≢ k.ExpressionStatement → kind ≢ k.IfStatement → kind ≢ k.WhileStatement → kind ≢ k.DoStatement → kind ≢ k.ForStatement
    → kind ≢ k.SwitchStatement → kind ≢ k.BreakStatement → kind ≢ k.ContinueStatement → kind ≢ k.ReturnStatement → kind ≢ k.TryBlock
    → kind ≢ k.SynchronizedStatement → kind ≢ k.AtomicStatement → statement_of lams s st x ≡ Err (Ill at OutOfProfile)
other_row lams s st x kind p at token us e w n h0 h1 h2 h3 h4 h5 h6 h7 h8 h9 h10 h11 h12 h13 = ap (statement_of lams s st) e
    ∙ other_kind lams s st kind p token us (sym (ap (λ (z : syntax.Tree). is_single (syntax.kind_of z)) e) ∙ w) h0 h1 h2 h3 h4 h5 h6 h7 h8 h9 h10 h11 h12 h13
    ∙ ap (λ (z : At). Err (Ill z OutOfProfile)) (sym n)

-- handlers, one behind the other

pub handlers_row : (lams : Lambdas) (s : List Lexeme) (st : State) (t : syntax.Tree) (hs : syntax.Trees)
    → handlers_of lams s st (syntax.more t hs) ≡ and_then (handler_if lams s st (is_last hs) t)
    (λ (d : Done). and_then (handlers_of lams s d.state hs) (λ (r : Done). Ok (joined d r)))
handlers_row lams s st (syntax.node kind p token syntax.none) hs = refl
handlers_row lams s st (syntax.node kind p token (syntax.more x syntax.none)) hs = refl
handlers_row lams s st (syntax.node kind p token (syntax.more x (syntax.more b syntax.none))) hs = handler_is lams s st kind p token x b hs
handlers_row lams s st (syntax.node kind p token (syntax.more x (syntax.more (syntax.node m q brace ks) (syntax.more u us)))) hs = refl

not_true : (b : Bool) → b ≢ true → b ≡ false
not_true true h = absurd (h refl)
not_true false h = refl

pub none_left : (ts : List syntax.Tree) (ids : List NodeId) (n : ℕ) (xs : List NodeId) → xs ≡ drop n ids → n ≤ length ids
    → is_last (trees_at ts xs) ≡ (n == length ids)
none_left ts ids n [] e h = sym (eq-eqb n (length ids) (omega (arith, length-drop n ids, ap length e, h)))
none_left ts ids n (x ∷ xs) e h = sym (not_true (n == length ids) (λ q. omega (arith, length-drop n ids, ap length e, eqb-true n (length ids) q)))

pub handlers_step : (lams : Lambdas) (s : List Lexeme) (st : State) (ts : List syntax.Tree) (ids : List NodeId) (i count : ℕ) (d : NodeId) (last : Bool)
    → i < length ids → count ≡ length ids → last ≡ (i + 1 == count)
    → handlers_of lams s st (trees_at ts (drop i ids))
    ≡ and_then (handler_if lams s st last (tree_at ts (get_or ids i d)))
    (λ (x : Done). and_then (handlers_of lams s x.state (trees_at ts (drop (i + 1) ids))) (λ (r : Done). Ok (joined x r)))
handlers_step lams s st ts ids i count d last h e f =
    let t : syntax.Tree = tree_at ts (get_or ids i d) in
    let rest : syntax.Trees = trees_at ts (drop (i + 1) ids) in
    ap (handlers_of lams s st) (trees_step ts ids i d h) ∙ handlers_row lams s st t rest
    ∙ ap (λ (z : Bool). and_then (handler_if lams s st z t) (λ (x : Done). and_then (handlers_of lams s x.state rest) (λ (r : Done). Ok (joined x r))))
    (none_left ts ids (i + 1) (drop (i + 1) ids) refl (omega (arith, h)) ∙ ap (λ (z : ℕ). i + 1 == z) (sym e) ∙ sym f)

-- of a tree whose kind is known

pub compound_tree : (lams : Lambdas) (s : List Lexeme) (st : State) (x : syntax.Tree) → syntax.kind_of x ≡ k.CompoundStatement
    → statement_of lams s st x ≡ and_then (body_of lams s (inner st) x) (back st)
compound_tree lams s st (syntax.node kind p token us) h = compound_row lams s st (syntax.node kind p token us) kind p token us refl h

pub for_tree : (lams : Lambdas) (s : List Lexeme) (st : State) (x : syntax.Tree) → syntax.kind_of x ≡ k.ForStatement
    → statement_of lams s st x ≡ and_then (for_inside_kids lams s (in_loop st) x) (back st)
for_tree lams s st (syntax.node kind p token us) h = for_row lams s st (syntax.node kind p token us) kind p token us refl h
