-- A handler of a declared type.
use Rattle.std.proofs.Common.{◌≡◌, ◌∙◌, ℕ, List, Option, Result, Ok, Err, refl, sym, ap, subst}
use Rattle.elab_expr.specs.cpp_lex.Tokens.{Lexeme}
use Rattle.elab_expr.specs.cpp_types.Typ.{Typ}
use Rattle.elab_expr.specs.cpp_types.declared.classes.At.{At}
use Rattle.elab_expr.specs.cpp_ast.declared.arena.At.{At as SyntaxAt}
use Rattle.elab_expr.specs.cpp_ast.declared.kinds.NodeKind.TheVariants as k
use Rattle.elab_expr.specs.cpp_ast.Trees as syntax
use Rattle.elab_expr.specs.cpp_tree.declared.faults.ElabFault.{ElabFault}
use Rattle.elab_expr.specs.elab_ctx.Ctx.{Work, ctx_of, work_of}
use Rattle.elab_expr.specs.elab_ctx.declared.env.Work.{Work as WorkRec}
use Rattle.elab_expr.specs.elab_ctx.Says.{Faults}
use Rattle.elab_expr.specs.elab_ctx.Steps.{and_then, at_of}
use Rattle.elab_expr.specs.elab_rules.Expressions.{type_of_specifiers, declared_by}
use Rattle.elab_expr.specs.elab_rules.Statements.{State, Caught, handler_type}
use Rattle.elab_expr.specs.elab_rules.Types.{Declared}
use Rattle.elab_expr.specs.Unmoved.{Unmoved}
use Rattle.elab_expr.proofs.elab_ctx.Making.{faults_in, faults_same}
use Rattle.elab_expr.proofs.Unmoved.{unmoved_trans}
use Rattle.elab_scopes.specs.declared.state.State.{State as StateRec}
use Rattle.elab_scopes.specs.declared.state.Caught.{Caught as CaughtRec}
use Rattle.elab_scopes.specs.States.{state_of, Grown}
use Rattle.elab_scopes.specs.Caught.{Catches, typed_handler, parameter_caught}
use Rattle.elab_scopes.proofs.Choices.{catches_same}
use Rattle.elab_scopes.proofs.Labelling.{unmoved_grown, unmoved_state}
use Rattle.elab_scopes.proofs.Standing.{grown_trans}

parameter_is : (s : List Lexeme) (st : State) (at : At) (p : SyntaxAt) (token : Option ℕ) (base d : syntax.Tree)
    → handler_type s st at (syntax.node k.ParameterDeclaration p token (syntax.more base (syntax.more d syntax.none)))
    ≡ parameter_caught s st at (at_of p) base d
parameter_is s st at p token base d = refl

pub parameter_catches : (a c : StateRec) (r : Result CaughtRec ElabFault) (s : List Lexeme) (st : State) (at : At) (p : SyntaxAt) (place : At)
    (token : Option ℕ) (x base d : syntax.Tree) → x ≡ syntax.node k.ParameterDeclaration p token (syntax.more base (syntax.more d syntax.none))
    → place ≡ at_of p → Catches a c r (parameter_caught s st at place base d) → Catches a c r (handler_type s st at x)
parameter_catches a c r s st at p place token x base d e h m =
    catches_same a c r (parameter_caught s st at place base d) (handler_type s st at x)
    (ap (handler_type s st at) e ∙ parameter_is s st at p token base d ∙ ap (λ (z : At). parameter_caught s st at z base d) (sym h)) m

-- The type and the declarator leave nothing behind

catches_grown : (a b c : StateRec) (r : Result CaughtRec ElabFault) (x y : Result Caught ElabFault) → Grown a b → y ≡ x → Catches b c r x → Catches a c r y
catches_grown a b c (Ok r) x y g e m = record { grown = grown_trans a b c g m.grown; within = m.within; is = e ∙ m.is }
catches_grown a b c (Err d) x y g e m = faults_same d x y e m

-- the declarator, once its type is known
declared_step : (s : List Lexeme) (a : StateRec) (v : WorkRec) (at p : At) (base d : syntax.Tree) (t : Typ)
    → type_of_specifiers s (ctx_of a.env) (work_of a.work) base ≡ Ok t → Unmoved a.work v
    → parameter_caught s (state_of a) at p base d
    ≡ and_then (declared_by s (ctx_of a.env) (work_of v) p t d) (λ (q : Declared). typed_handler s (state_of a) at p q.typ q.name)
declared_step s a v at p base d t e u =
    ap (λ (z : Result Typ ElabFault). and_then z
    (λ (y : Typ). and_then (declared_by s (ctx_of a.env) (work_of a.work) p y d) (λ (q : Declared). typed_handler s (state_of a) at p q.typ q.name))) e
    ∙ ap (λ (z : Work). and_then (declared_by s (ctx_of a.env) z p t d) (λ (q : Declared). typed_handler s (state_of a) at p q.typ q.name)) (sym u.work)

pub declared_catches : (a c : StateRec) (v w : WorkRec) (r : Result CaughtRec ElabFault) (s : List Lexeme) (at p : At) (base d : syntax.Tree) (t : Typ)
    (f : Declared) → type_of_specifiers s (ctx_of a.env) (work_of a.work) base ≡ Ok t → Unmoved a.work v
    → declared_by s (ctx_of a.env) (work_of v) p t d ≡ Ok f → Unmoved v w
    → Catches (record a { work = w }) c r (typed_handler s (state_of (record a { work = w })) at p f.typ f.name)
    → Catches a c r (parameter_caught s (state_of a) at p base d)
declared_catches a c v w r s at p base d t f e u g h m =
    let all : Unmoved a.work w = unmoved_trans a.work v w u h in
    catches_grown a (record a { work = w }) c r _ _ (unmoved_grown a w all)
    (declared_step s a v at p base d t e u
    ∙ ap (λ (z : Result Declared ElabFault). and_then z (λ (q : Declared). typed_handler s (state_of a) at p q.typ q.name)) g
    ∙ ap (λ (z : State). typed_handler s z at p f.typ f.name) (sym (unmoved_state a w all))) m

pub declared_uncaught : (a c : StateRec) (v : WorkRec) (r : Result CaughtRec ElabFault) (s : List Lexeme) (at p : At) (base d : syntax.Tree) (t : Typ)
    (f : ElabFault) → r ≡ Err f → type_of_specifiers s (ctx_of a.env) (work_of a.work) base ≡ Ok t → Unmoved a.work v
    → Faults f (declared_by s (ctx_of a.env) (work_of v) p t d) → Catches a c r (parameter_caught s (state_of a) at p base d)
declared_uncaught a c v r s at p base d t f q e u h =
    subst (λ (z : Result CaughtRec ElabFault). Catches a c z (parameter_caught s (state_of a) at p base d)) (sym q)
    (faults_same f (and_then (declared_by s (ctx_of a.env) (work_of v) p t d) (λ (y : Declared). typed_handler s (state_of a) at p y.typ y.name)) _
    (declared_step s a v at p base d t e u)
    (faults_in (λ (z : Result Declared ElabFault). and_then z (λ (y : Declared). typed_handler s (state_of a) at p y.typ y.name)) f
    (declared_by s (ctx_of a.env) (work_of v) p t d) (λ y. refl) h))
