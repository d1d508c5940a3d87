-- What is made for an expression stands behind what was made before it, and the globals that are added are strings.
use Rattle.std.specs.Prelude.{◌≡◌, ℕ, true, List, Some, slice_get}
use Rattle.elab_rules.specs.cpp_types.Typ.{Typ}
use Rattle.elab_rules.specs.cpp_types.Class.{Class}
use Rattle.elab_rules.specs.cpp_types.declared.classes.At.{At}
use Rattle.elab_rules.specs.cpp_lex.Tokens.{Lexeme}
use Rattle.elab_rules.specs.cpp_ast.Trees as syntax
use Rattle.elab_rules.specs.cpp_tree.Units.{Global}
use Rattle.elab_rules.specs.cpp_tree.Rows.{Setting}
use Rattle.elab_rules.specs.elab_ctx.Ctx.{Ctx, Work, Closure}
use Rattle.elab_rules.specs.elab_ctx.Steps.{Operand, Made, Typed, TypedAll}
use Rattle.elab_rules.specs.Initialising.{initial, class_from, from_values}
use Rattle.elab_rules.specs.Operators.{dropped}
use Rattle.elab_rules.specs.Expressions.{expression_with, operands_with}
use Rattle.elab_fits.specs.Standing.{Reaches, On}
use Rattle.elab_fits_forms.specs.Types.{is_target}
use Rattle.elab_fits_forms.specs.Context.{Holds}

abbrev pub AreObjects : List Class → List Global → Type 0
AreObjects classes gs = (i : ℕ) (g : Global) → slice_get gs i ≡ Some g → is_target classes g.typ ≡ true

-- items of the frame and globals stay in their places, and where all globals were objects, those that are added are too
pub record Behind (a b : Work) : Type 0 where
  pub frame : (i : ℕ) (t : Typ) → slice_get a.frame i ≡ Some t → slice_get b.frame i ≡ Some t
  pub globals : (i : ℕ) (g : Global) → slice_get a.globals i ≡ Some g → slice_get b.globals i ≡ Some g
  pub objects : (classes : List Class) → AreObjects classes a.globals → AreObjects classes b.globals

abbrev pub ExpressionsGrow : Type 0
ExpressionsGrow = (lexemes : List Lexeme) (c : Ctx) (l : List Closure) (w : Work) (e : syntax.Tree)
    → On (λ (x : Typed). Behind w x.work) (expression_with lexemes c l w e)

abbrev pub OperandsGrow : Type 0
OperandsGrow = (lexemes : List Lexeme) (c : Ctx) (l : List Closure) (w : Work) (es : syntax.Trees)
    → On (λ (x : TypedAll). Behind w x.work) (operands_with lexemes c l w es)

-- so does what initialises, and what is dropped
abbrev pub InitialsGrow : Type 0
InitialsGrow = (c : Ctx) (w : Work) (t : Typ) (o : Operand) → On (λ (m : Made). Behind w m.work) (initial c w t o)

abbrev pub ClassesGrow : Type 0
ClassesGrow = (c : Ctx) (w : Work) (t : Typ) (at : At) (o : Operand) → On (λ (m : Made). Behind w m.work) (class_from c w t at o)

abbrev pub ValuesGrow : Type 0
ValuesGrow = (c : Ctx) (w : Work) (t : Typ) (at : At) (os : List Operand) → On (λ (m : Made). Behind w m.work) (from_values c w t at os)

abbrev pub DroppedGrow : Type 0
DroppedGrow = (c : Ctx) (w : Work) (o : Operand) → Behind w (dropped c w o).work

-- what a context holds, it holds behind an expression
abbrev pub HoldsKept : Type 0
HoldsKept = (s : Setting) (c : Ctx) (a b : Work) → Behind a b → Holds s c a → Holds s c b

-- where all that is made has its place, so has what was made before
abbrev pub ReachesKept : Type 0
ReachesKept = (s : Setting) (a b : Work) → Behind a b → Reaches s b → Reaches s a
