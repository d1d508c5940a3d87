-- Statements in statements, step by step.
use Rattle.std.specs.Prelude.{Bool, true, false, not, ◌||◌, List, Result, Ok, Err}
use Rattle.elab_locals.specs.cpp_types.declared.classes.At.{At}
use Rattle.elab_locals.specs.cpp_lex.Tokens.{Lexeme}
use Rattle.elab_locals.specs.cpp_ast.declared.kinds.NodeKind.{NodeKind}
use Rattle.elab_locals.specs.cpp_ast.declared.kinds.NodeKind.TheVariants as k
use Rattle.elab_locals.specs.cpp_ast.Trees as syntax
use Rattle.elab_locals.specs.cpp_tree.declared.faults.ElabFault.{ElabFault}
use Rattle.elab_locals.specs.cpp_tree.declared.faults.ElabFault.TheVariants.{Ill}
use Rattle.elab_locals.specs.cpp_tree.declared.faults.IllRule.TheVariants.{BadCatch, OutOfProfile}
use Rattle.elab_locals.specs.cpp_tree.declared.kinds.TKind.{TKind}
use Rattle.elab_locals.specs.cpp_tree.declared.kinds.TKind.TheVariants as forms
use Rattle.elab_locals.specs.cpp_tree.Trees.{Tree, Trees, none, more, one, three}
use Rattle.elab_locals.specs.elab_ctx.Steps.{and_then, check, at_of}
use Rattle.elab_locals.specs.elab_rules.Objects.{followed_by}
use Rattle.elab_locals.specs.elab_rules.Statements.{Lambdas, State, Done, Switched, Caught, done, statement, block, the_tree, condition, a_part, inner, in_loop}
use Rattle.elab_locals.specs.elab_rules.Statements.{in_block, in_switch, outer, for_first, for_test, for_step, statement_of, statements_of, handlers_of}
use Rattle.elab_locals.specs.elab_rules.Statements.{handler_type, handler_node, is_ellipsis}

-- forms of which more than one tree is made, or none
abbrev pub is_single : NodeKind → Bool
is_single k.SimpleDeclaration = false
is_single k.CaseStatement = false
is_single k.DefaultStatement = false
is_single kind = true

abbrev pub is_simple_declaration : NodeKind → Bool
is_simple_declaration k.SimpleDeclaration = true
is_simple_declaration kind = false

abbrev pub is_compound : NodeKind → Bool
is_compound k.CompoundStatement = true
is_compound kind = false

-- the statements in a node as one
abbrev pub body_of : Lambdas → List Lexeme → State → syntax.Tree → Result Done ElabFault
body_of lams s st (syntax.node kind q brace kids) = and_then (statements_of lams s st kids) (λ (d : Done). done (one (block (at_of q) d.trees)) d.state)

-- a statement in another, as one tree
abbrev pub part_of : Lambdas → List Lexeme → State → At → syntax.Tree → Result Done ElabFault
part_of lams s st at t = and_then (and_then (statement_of lams s st t) (a_part s t)) (λ (y : Done). done (one (the_tree at y.trees)) y.state)

-- the trees of a statement as the one of a part of another
abbrev pub one_part : List Lexeme → At → syntax.Tree → Done → Result Done ElabFault
one_part s at t d = and_then (a_part s t d) (λ (y : Done). done (one (the_tree at y.trees)) y.state)

-- the same in a scope of its own
abbrev pub inner_part : Lambdas → List Lexeme → State → At → syntax.Tree → Result Done ElabFault
inner_part lams s st at t = and_then (part_of lams s (inner st) at t) (λ (y : Done). done y.trees (outer st y.state))

abbrev pub loop_part : Lambdas → List Lexeme → State → At → syntax.Tree → Result Done ElabFault
loop_part lams s st at t = and_then (part_of lams s (in_loop st) at t) (λ (y : Done). done y.trees (outer st y.state))

-- `if`, behind its condition and behind its first branch

abbrev pub if_alone : Lambdas → List Lexeme → State → At → Tree → syntax.Tree → Result Done ElabFault
if_alone lams s st at test a = and_then (inner_part lams s st at a)
    (λ (y : Done). done (one (statement forms.Conditional at (three test (the_tree at y.trees) (block at none)))) y.state)

abbrev pub if_other : Lambdas → List Lexeme → State → At → Tree → Tree → syntax.Tree → Result Done ElabFault
if_other lams s st at test a b = and_then (inner_part lams s st at b)
    (λ (z : Done). done (one (statement forms.Conditional at (three test a (the_tree at z.trees)))) z.state)

abbrev pub if_both : Lambdas → List Lexeme → State → At → Tree → syntax.Tree → syntax.Tree → Result Done ElabFault
if_both lams s st at test a b = and_then (inner_part lams s st at a) (λ (y : Done). if_other lams s y.state at test (the_tree at y.trees) b)

abbrev pub if_short : Lambdas → List Lexeme → State → At → syntax.Tree → syntax.Tree → Result Done ElabFault
if_short lams s st at e a = and_then (condition lams s st e) (λ (x : Done). if_alone lams s x.state at (the_tree at x.trees) a)

abbrev pub if_long : Lambdas → List Lexeme → State → At → syntax.Tree → syntax.Tree → syntax.Tree → Result Done ElabFault
if_long lams s st at e a b = and_then (condition lams s st e) (λ (x : Done). if_both lams s x.state at (the_tree at x.trees) a b)

-- loops

abbrev pub while_body : Lambdas → List Lexeme → State → At → Tree → syntax.Tree → Result Done ElabFault
while_body lams s st at test a = and_then (loop_part lams s st at a)
    (λ (y : Done). done (one (statement (forms.Loop true) at (three test (the_tree at y.trees) (block at none)))) y.state)

abbrev pub do_test : Lambdas → List Lexeme → State → At → Tree → syntax.Tree → Result Done ElabFault
do_test lams s st at body e = and_then (condition lams s st e)
    (λ (x : Done). done (one (statement (forms.Loop false) at (three (the_tree at x.trees) body (block at none)))) x.state)

-- the body of a `for`, in whose scope it stands
abbrev pub for_body : Lambdas → List Lexeme → State → At → syntax.Tree → Result Done ElabFault
for_body lams s st at (syntax.node k.CompoundStatement q brace kids) = body_of lams s st (syntax.node k.CompoundStatement q brace kids)
for_body lams s st at t = part_of lams s st at t

abbrev pub for_loop : At → Trees → Tree → Tree → Tree → Tree
for_loop at first test body step = block at (followed_by first (one (statement (forms.Loop true) at (three test body step))))

abbrev pub for_last : Lambdas → List Lexeme → State → At → Trees → Tree → Tree → syntax.Tree → Result Done ElabFault
for_last lams s st at first test step a = and_then (for_body lams s st at a)
    (λ (y : Done). done (one (for_loop at first test (the_tree at y.trees) step)) y.state)

abbrev pub for_stepped : Lambdas → List Lexeme → State → At → Trees → Tree → syntax.Tree → syntax.Tree → Result Done ElabFault
for_stepped lams s st at first test n a = and_then (for_step lams s st at n) (λ (z : Done). for_last lams s z.state at first test (the_tree at z.trees) a)

abbrev pub for_tested : Lambdas → List Lexeme → State → At → Trees → syntax.Tree → syntax.Tree → syntax.Tree → Result Done ElabFault
for_tested lams s st at first e n a = and_then (for_test lams s st at e) (λ (x : Done). for_stepped lams s x.state at first (the_tree at x.trees) n a)

abbrev pub for_inside : Lambdas → List Lexeme → State → At → syntax.Tree → syntax.Tree → syntax.Tree → syntax.Tree → Result Done ElabFault
for_inside lams s st at i e n a = and_then (for_first lams s st i) (λ (f : Done). for_tested lams s f.state at f.trees e n a)

-- `switch`, behind its value

abbrev pub switch_inside : Lambdas → List Lexeme → State → syntax.Tree → Result Done ElabFault
switch_inside lams s st (syntax.node kind q brace kids) = statements_of lams s st kids

abbrev pub switch_body : Lambdas → List Lexeme → At → Switched → syntax.Tree → Result Done ElabFault
switch_body lams s at v b = and_then (switch_inside lams s (in_switch v.state v.typ) b)
    (λ (d : Done). done (one (statement forms.Switch at (more v.value d.trees))) (outer v.state d.state))

-- blocks of transactions

abbrev pub guarded : Lambdas → List Lexeme → State → At → TKind → syntax.Tree → Result Done ElabFault
guarded lams s st at kind b = and_then (body_of lams s (in_block st) b) (λ (d : Done). done (one (statement kind at d.trees)) (outer st d.state))

-- handlers

abbrev pub tried : Lambdas → List Lexeme → State → syntax.Tree → Result Done ElabFault
tried lams s st b = and_then (body_of lams s (inner st) b) (λ (d : Done). done d.trees (outer st d.state))

abbrev pub try_handlers : Lambdas → List Lexeme → State → At → Tree → syntax.Trees → Result Done ElabFault
try_handlers lams s st at body hs = and_then (handlers_of lams s st hs) (λ (r : Done). done (one (statement forms.Try at (more body r.trees))) r.state)

abbrev pub handler_body : Lambdas → List Lexeme → Caught → At → syntax.Tree → Result Done ElabFault
handler_body lams s h at b = and_then (body_of lams s h.state b)
    (λ (d : Done). done (one (handler_node at h.place h.typ (the_tree at d.trees) h.fields)) d.state)

abbrev pub handler_inside : Lambdas → List Lexeme → State → At → syntax.Tree → syntax.Tree → Result Done ElabFault
handler_inside lams s st at x b = and_then (handler_type s st at x) (λ (h : Caught). handler_body lams s h at b)

-- one of them, in a scope of its own
abbrev pub handler_of : Lambdas → List Lexeme → State → At → syntax.Tree → syntax.Tree → Result Done ElabFault
handler_of lams s st at x b = and_then (handler_inside lams s (inner st) at x b) (λ (d : Done). done d.trees (outer st d.state))

-- one that is the last or not: `...` stands last

abbrev pub handler_if : Lambdas → List Lexeme → State → Bool → syntax.Tree → Result Done ElabFault
handler_if lams s st last (syntax.node kind p token (syntax.more x (syntax.more b syntax.none))) =
    and_then (check (at_of p) BadCatch (not (is_ellipsis x) || last)) (λ y. handler_of lams s st (at_of p) x b)
handler_if lams s st last (syntax.node kind p token kids) = Err (Ill (at_of p) OutOfProfile)

-- a `for` in its scope
abbrev pub for_inside_kids : Lambdas → List Lexeme → State → syntax.Tree → Result Done ElabFault
for_inside_kids lams s st (syntax.node kind p token (syntax.more i (syntax.more e (syntax.more n (syntax.more a syntax.none))))) =
    for_inside lams s st (at_of p) i e n a
for_inside_kids lams s st (syntax.node kind p token kids) = Err (Ill (at_of p) OutOfProfile)
