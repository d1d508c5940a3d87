-- Bodies that are written, given what their statements give.
use Rattle.std.specs.Prelude.{◌≡◌, ℕ, true, false, List, Option, Ok}
use Rattle.elab_rules.specs.cpp_types.Typ.{Typ, Signature}
use Rattle.elab_rules.specs.cpp_lex.Tokens.{Lexeme}
use Rattle.elab_rules.specs.cpp_ast.declared.arena.At.{At as SyntaxAt}
use Rattle.elab_rules.specs.cpp_ast.declared.kinds.NodeKind.{NodeKind}
use Rattle.elab_rules.specs.cpp_ast.Trees as syntax
use Rattle.elab_rules.specs.cpp_tree.declared.roles.Role.TheVariants.{BlockItem}
use Rattle.elab_rules.specs.cpp_tree.Rows.{Setting, is_constructor, is_destructor}
use Rattle.elab_rules.specs.elab_ctx.Ctx.{known}
use Rattle.elab_rules.specs.Initialising.{signature_result}
use Rattle.elab_rules.specs.Functions.{Header, entered, with_parameters, function_body}
use Rattle.elab_rules.specs.Lambdas.{Written, inside, lambda_entered, declared_closure, body_statements, lambda_with}
use Rattle.elab_rules.specs.Members.{in_object, constructor_block, destructor_body}
use Rattle.elab_rules.specs.Statements.{State, Done, Lambdas, statements_of}
use Rattle.elab_fits.specs.Standing.{IsSetting, Reaches, On}
use Rattle.elab_fits.specs.Objects.{HasSpecials}
use Rattle.elab_fits_statements.specs.Anywhere.{AllServe}
use Rattle.elab_fits_bodies.specs.Functions.{IsResult}
use Rattle.elab_fits_bodies.specs.Parts.{HasParts}
use Rattle.elab_fits_bodies.specs.Implied.{LastFits}

-- items of the body of a function with this result
pub record ResultItems (x : Setting) (r : Typ) (d : Done) : Type 0 where
  pub setting : IsSetting x d.state.ctx
  pub result : IsResult x d.state.ctx r
  pub serve : AllServe x false false BlockItem d.trees

-- items of the body of a destructor
pub record DestructorItems (x : Setting) (n : ℕ) (d : Done) : Type 0 where
  pub setting : IsSetting x d.state.ctx
  pub specials : HasSpecials d.state.ctx
  pub parts : HasParts x d.state.ctx n
  pub serve : AllServe x false false BlockItem d.trees

-- where the statements behind the parameters give items, the body of a function fits
abbrev pub FunctionBodiesFit : Type 0
FunctionBodiesFit = (x : Setting) (lams : Lambdas) (s : List Lexeme) (st : State) (h : Header) (this : Option Typ) (place : ℕ) (kind : NodeKind) (p : SyntaxAt)
    (token : Option ℕ) (kids : syntax.Trees) → is_constructor x.function.kind ≡ false
    → ((e : State) → with_parameters s (entered st (signature_result h.signature) this h.class) h.params ≡ Ok e
    → On (λ (d : Done). Reaches x d.state.work → ResultItems x (signature_result h.signature) d) (statements_of lams s e kids))
    → On (LastFits x) (function_body lams s st h this place (syntax.node kind p token kids))

-- that of a constructor, behind the parts that are initialised
abbrev pub ConstructorBodiesFit : Type 0
ConstructorBodiesFit = (x : Setting) (lams : Lambdas) (s : List Lexeme) (before : State) (h : Header) (n place : ℕ) (parts : Done) (kind : NodeKind)
    (p : SyntaxAt) (token : Option ℕ) (kids : syntax.Trees) → is_constructor x.function.kind ≡ true
    → On (λ (d : Done). Reaches x d.state.work → AllServe x false false BlockItem parts.trees × AllServe x false false BlockItem d.trees)
    (statements_of lams s parts.state kids)
    → On (LastFits x) (constructor_block lams s before h n place parts (syntax.node kind p token kids))

abbrev pub DestructorBodiesFit : Type 0
DestructorBodiesFit = (x : Setting) (lams : Lambdas) (s : List Lexeme) (st : State) (h : Header) (n place : ℕ) (kind : NodeKind) (p : SyntaxAt)
    (token : Option ℕ) (kids : syntax.Trees) → is_destructor x.function.kind ≡ true
    → On (λ (d : Done). Reaches x d.state.work → DestructorItems x n d) (statements_of lams s (in_object st n) kids)
    → On (LastFits x) (destructor_body lams s st h n place (syntax.node kind p token kids))

-- that of a lambda's call, whose result is known
abbrev pub LambdaBodiesFit : Type 0
LambdaBodiesFit = (x : Setting) (s : List Lexeme) (st : State) (l : Written) (r : Typ) (sig : Signature) → is_constructor x.function.kind ≡ false
    → On (λ (d : Done). Reaches x d.state.work → ResultItems x r d)
    (body_statements s (inside st (lambda_entered st l (known r) r) (declared_closure st l sig)) l)
    → On (LastFits x) (lambda_with s st l r sig)
