-- The laws of rows, and of expressions whose functions are one function.
use Rattle.std.specs.Prelude.{◌≡◌, ℕ, true, false, List}
use Rattle.elab_rules.specs.cpp_types.declared.classes.At.{At}
use Rattle.elab_rules.specs.cpp_lex.Tokens.{Lexeme}
use Rattle.elab_rules.specs.cpp_ast.declared.kinds.NodeKind.{NodeKind}
use Rattle.elab_rules.specs.cpp_ast.Trees as syntax
use Rattle.elab_rules.specs.cpp_tree.Rows.{Setting}
use Rattle.elab_rules.specs.elab_ctx.Ctx.{Ctx, Work, Closure}
use Rattle.elab_rules.specs.elab_ctx.Steps.{Operand, Typed, spelling, and_then}
use Rattle.elab_rules.specs.Expressions.{row_of, expression_with, chosen_operand}
use Rattle.elab_fits.specs.Standing.{Reaches, On}
use Rattle.elab_fits_forms.specs.Types.{is_empty}
use Rattle.elab_fits_forms.specs.Meaning.{ProperOperand}
use Rattle.elab_fits_forms.specs.Context.{Holds}
use Rattle.elab_fits_forms.specs.Names.{TypedMeans}
use Rattle.elab_fits_forms.specs.Forms.{ProperOperands}
use Rattle.elab_fits_forms.specs.Expressions.{is_spelled, ClosuresHold}

abbrev pub AllRowsMean : Type 0
AllRowsMean = (lexemes : List Lexeme) (s : Setting) (c : Ctx) (w : Work) (kind : NodeKind) (at : At) (t : ℕ) (os : List Operand) → Holds s c w
    → is_empty (spelling lexemes t) ≡ false → ProperOperands s c os → On (TypedMeans s c) (row_of lexemes c w kind at t os)

-- what stands where all that is made has its place
abbrev pub TypedStands : Setting → Ctx → Typed → Type 0
TypedStands s c x = Reaches s x.work → ProperOperand s c x.operand

-- and stands, once its functions are one function
abbrev pub ChosenStand : Type 0
ChosenStand = (lexemes : List Lexeme) (s : Setting) (c : Ctx) (l : List Closure) (w : Work) (e : syntax.Tree) → Holds s c w → ClosuresHold c l
    → is_spelled lexemes e ≡ true → On (TypedStands s c) (and_then (expression_with lexemes c l w e) (chosen_operand c))
