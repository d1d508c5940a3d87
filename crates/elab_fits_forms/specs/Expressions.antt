-- The law of all expressions: in a context that holds, whatever elaborates means something.
use Rattle.std.specs.Prelude.{◌≡◌, ℕ, Bool, true, not, ◌&&◌, List, map, Option, Some, None, slice_get}
use Rattle.elab_rules.specs.cpp_types.Typ.{Typ, ptr}
use Rattle.elab_rules.specs.cpp_lex.Tokens.{Lexeme}
use Rattle.elab_rules.specs.cpp_ast.Trees as syntax
use Rattle.elab_rules.specs.cpp_tree.Notation.{plain}
use Rattle.elab_rules.specs.cpp_tree.Rows.{Setting}
use Rattle.elab_rules.specs.elab_ctx.Ctx.{Ctx, Work, Variable, This, Capture, Closure}
use Rattle.elab_rules.specs.elab_ctx.Steps.{TypedAll, spelling}
use Rattle.elab_rules.specs.Objects.{Part, parts_of}
use Rattle.elab_rules.specs.Lambdas.{captured_as}
use Rattle.elab_rules.specs.Expressions.{expression_with, operands_with}
use Rattle.elab_fits.specs.Standing.{Reaches, On}
use Rattle.elab_fits_forms.specs.Types.{is_empty, is_lambda}
use Rattle.elab_fits_forms.specs.Context.{Holds}
use Rattle.elab_fits_forms.specs.Names.{TypedMeans}
use Rattle.elab_fits_forms.specs.Forms.{ProperOperands}

-- each token of a tree is spelled with something
abbrev pub is_spelled_token : List Lexeme → Option ℕ → Bool
is_spelled_token lexemes (Some t) = not (is_empty (spelling lexemes t))
is_spelled_token lexemes None = true

abbrev mutual
  pub is_spelled : List Lexeme → syntax.Tree → Bool
  is_spelled lexemes (syntax.node kind p token kids) = is_spelled_token lexemes token && are_spelled lexemes kids

  pub are_spelled : List Lexeme → syntax.Trees → Bool
  are_spelled lexemes syntax.none = true
  are_spelled lexemes (syntax.more t ts) = is_spelled lexemes t && are_spelled lexemes ts

-- the variable of the function at hand that is captured: its type gives that of the capture
pub record IsCapturedVariable (c : Ctx) (x : Capture) (i : ℕ) : Type 0 where
  pub variable : Variable
  pub at : slice_get c.variables i ≡ Some variable
  pub typ : Typ
  pub known : variable.typ ≡ Some typ
  pub is : x.typ ≡ captured_as x.by_ref typ

-- the object at hand whose pointer is captured
pub record IsCapturedThis (c : Ctx) (x : Capture) : Type 0 where
  pub this : This
  pub at : c.this ≡ Some this
  pub is : x.typ ≡ plain (ptr this.typ)

-- what is captured is such a variable, or `this`
pub record IsCapture (c : Ctx) (x : Capture) : Type 0 where
  pub variable : (i : ℕ) → x.variable ≡ Some i → IsCapturedVariable c x i
  pub this : x.variable ≡ None → IsCapturedThis c x

-- a lambda that was made before the full-expression: there is none in a lambda (profile), and the parts of its objects are its captures
pub record IsClosure (c : Ctx) (x : Closure) : Type 0 where
  pub outside : c.lambda ≡ None
  pub lambda : is_lambda c.classes x.class ≡ true
  pub parts : map (λ (p : Part). p.typ) (parts_of c.classes x.class) ≡ map (λ (y : Capture). y.typ) x.captures
  pub captures : (i : ℕ) (y : Capture) → slice_get x.captures i ≡ Some y → IsCapture c y

pub record ClosuresHold (c : Ctx) (l : List Closure) : Type 0 where
  pub closures : (i : ℕ) (x : Closure) → slice_get l i ≡ Some x → IsClosure c x

abbrev pub ExpressionsMean : Type 0
ExpressionsMean = (lexemes : List Lexeme) (s : Setting) (c : Ctx) (l : List Closure) (w : Work) (e : syntax.Tree) → Holds s c w → ClosuresHold c l
    → is_spelled lexemes e ≡ true → On (TypedMeans s c) (expression_with lexemes c l w e)

abbrev pub OperandsStand : Type 0
OperandsStand = (lexemes : List Lexeme) (s : Setting) (c : Ctx) (l : List Closure) (w : Work) (es : syntax.Trees) → Holds s c w → ClosuresHold c l
    → are_spelled lexemes es ≡ true
    → On (λ (x : TypedAll). Reaches s x.work → ProperOperands s c x.operands) (operands_with lexemes c l w es)
