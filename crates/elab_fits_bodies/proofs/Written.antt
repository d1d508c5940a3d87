-- Bodies that are written.
use Rattle.std.proofs.Common.{◌≡◌, refl, ℕ, true, false, List, length, Option, Result, Ok, Err}
use Rattle.elab_rules.specs.cpp_types.Typ.{Typ, Signature}
use Rattle.elab_rules.specs.cpp_lex.Tokens.{Lexeme}
use Rattle.elab_rules.specs.cpp_ast.declared.arena.At.{At as SyntaxAt}
use Rattle.elab_rules.specs.cpp_ast.declared.kinds.NodeKind.{NodeKind}
use Rattle.elab_rules.specs.cpp_ast.Trees as syntax
use Rattle.elab_rules.specs.cpp_tree.declared.faults.ElabFault.{ElabFault}
use Rattle.elab_rules.specs.cpp_tree.declared.kinds.TKind.TheVariants as forms
use Rattle.elab_rules.specs.cpp_tree.declared.roles.Role.TheVariants.{BlockItem}
use Rattle.elab_rules.specs.cpp_tree.Rows.{Setting, is_constructor, is_destructor}
use Rattle.elab_rules.specs.elab_ctx.Steps.{and_then, check, at_of}
use Rattle.elab_rules.specs.Initialising.{signature_result}
use Rattle.elab_rules.specs.Objects.{followed_by}
use Rattle.elab_rules.specs.Functions.{Header, entered, with_parameters, end_of, function_body}
use Rattle.elab_rules.specs.Lambdas.{Written, inside, lambda_entered, declared_closure, body_statements, lambda_with, closure_sized}
use Rattle.elab_rules.specs.Operators.{is_complete}
use Rattle.elab_rules.specs.cpp_types.Class.{held}
use Rattle.elab_rules.specs.cpp_tree.declared.faults.IllRule.TheVariants.{Incomplete}
use Rattle.elab_rules.specs.elab_ctx.Ctx.{known}
use Rattle.elab_rules.specs.Members.{in_object, constructor_tree, constructor_block, destructor_tree, destructor_body}
use Rattle.elab_rules.specs.Statements.{State, Done, Lambdas, statement, statements_of}
use Rattle.elab_fits.specs.Standing.{Reaches, On}
use Rattle.elab_fits.proofs.Steps.{bind, skip}
use Rattle.elab_fits_statements.specs.Anywhere.{AllServe}
use Rattle.elab_fits_bodies.specs.Implied.{LastFits}
use Rattle.elab_fits_bodies.specs.Bodies.{ResultItems, DestructorItems}
use Rattle.elab_fits_bodies.proofs.Bodies.{constructor_fits, destructor_fits}
use Rattle.elab_fits_bodies.proofs.Ends.{function_fits}
use Rattle.elab_fits_bodies.proofs.Members.{made_fits}

-- behind a step whose answer is known
taken : {A B : Type 0} (Q : B → Type 0) (r : Result A ElabFault) (f : A → Result B ElabFault) → ((a : A) → r ≡ Ok a → On Q (f a)) → On Q (and_then r f)
taken Q (Ok a) f g = g a refl
taken Q (Err e) f g = tt

pub function_body_fits : (x : Setting) (lams : Lambdas) (s : List Lexeme) (st : State) (h : Header) (this : Option Typ) (place : ℕ) (kind : NodeKind) (p : SyntaxAt)
    (token : Option ℕ) (kids : syntax.Trees) → is_constructor x.function.kind ≡ false
    → ((e : State) → with_parameters s (entered st (signature_result h.signature) this h.class) h.params ≡ Ok e
    → On (λ (d : Done). Reaches x d.state.work → ResultItems x (signature_result h.signature) d) (statements_of lams s e kids))
    → On (LastFits x) (function_body lams s st h this place (syntax.node kind p token kids))
function_body_fits x lams s st h this place kind p token kids k g = skip (LastFits x) _ _
    (λ y. taken (LastFits x) (with_parameters s (entered st (signature_result h.signature) this h.class) h.params) _
    (λ e q. bind (λ (d : Done). Reaches x d.state.work → ResultItems x (signature_result h.signature) d) (LastFits x) (statements_of lams s e kids) _ (g e q)
    (λ d f. made_fits x st h.at place
    (statement (forms.Block false) (at_of p) (followed_by d.trees (end_of d.state.ctx (signature_result h.signature) (at_of p)))) d.state
    (λ r. let z = f r in function_fits x d.state.ctx (signature_result h.signature) (at_of p) d.trees z.setting z.result k z.serve))))

pub constructor_body_fits : (x : Setting) (lams : Lambdas) (s : List Lexeme) (before : State) (h : Header) (n place : ℕ) (parts : Done) (kind : NodeKind)
    (p : SyntaxAt) (token : Option ℕ) (kids : syntax.Trees) → is_constructor x.function.kind ≡ true
    → On (λ (d : Done). Reaches x d.state.work → AllServe x false false BlockItem parts.trees × AllServe x false false BlockItem d.trees)
    (statements_of lams s parts.state kids)
    → On (LastFits x) (constructor_block lams s before h n place parts (syntax.node kind p token kids))
constructor_body_fits x lams s before h n place parts kind p token kids k g =
    bind (λ (d : Done). Reaches x d.state.work → AllServe x false false BlockItem parts.trees × AllServe x false false BlockItem d.trees) (LastFits x)
    (statements_of lams s parts.state kids) _ g
    (λ d f. made_fits x before h.at place (constructor_tree (at_of p) parts.trees d.trees) d.state
    (λ r. let z = f r in constructor_fits x (at_of p) parts.trees d.trees k z.0 z.1))

pub destructor_body_fits : (x : Setting) (lams : Lambdas) (s : List Lexeme) (st : State) (h : Header) (n place : ℕ) (kind : NodeKind) (p : SyntaxAt)
    (token : Option ℕ) (kids : syntax.Trees) → is_destructor x.function.kind ≡ true
    → On (λ (d : Done). Reaches x d.state.work → DestructorItems x n d) (statements_of lams s (in_object st n) kids)
    → On (LastFits x) (destructor_body lams s st h n place (syntax.node kind p token kids))
destructor_body_fits x lams s st h n place kind p token kids k g = bind (λ (d : Done). Reaches x d.state.work → DestructorItems x n d) (LastFits x)
    (statements_of lams s (in_object st n) kids) _ g
    (λ d f. made_fits x st h.at place (destructor_tree d.state.ctx h.at (at_of p) n d.trees) d.state
    (λ r. let z = f r in destructor_fits x d.state.ctx h.at (at_of p) n d.trees z.setting z.specials z.parts k z.serve))

pub lambda_body_fits : (x : Setting) (s : List Lexeme) (st : State) (l : Written) (r : Typ) (sig : Signature) → is_constructor x.function.kind ≡ false
    → On (λ (d : Done). Reaches x d.state.work → ResultItems x r d)
    (body_statements s (inside st (lambda_entered st l (known r) r) (declared_closure st l sig)) l)
    → On (LastFits x) (lambda_with s st l r sig)
lambda_body_fits x s st l r sig k g = skip (LastFits x) (check l.at Incomplete (is_complete st.ctx (held r))) _
    (λ y. skip (LastFits x) (closure_sized st l sig) _
    (λ u. bind (λ (d : Done). Reaches x d.state.work → ResultItems x r d) (LastFits x)
    (body_statements s (inside st (lambda_entered st l (known r) r) (declared_closure st l sig)) l) _ g
    (λ d f. made_fits x (record st { ctx = declared_closure st l sig }) l.at (length st.ctx.funcs)
    (statement (forms.Block false) l.body_at (followed_by d.trees (end_of d.state.ctx r l.body_at))) d.state
    (λ h. let z = f h in function_fits x d.state.ctx r l.body_at d.trees z.setting z.result k z.serve))))
