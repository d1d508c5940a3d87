-- What is made for an expression stands behind what was made before it.
use Rattle.std.specs.Prelude.{◌≡◌, List, length, take, Ok}
use Rattle.elab_rules.specs.cpp_types.Typ.{Typ}
use Rattle.elab_rules.specs.cpp_lex.Tokens.{Lexeme}
use Rattle.elab_rules.specs.cpp_ast.Trees as syntax
use Rattle.elab_rules.specs.elab_ctx.Ctx.{Ctx, Work, Closure}
use Rattle.elab_rules.specs.elab_ctx.Steps.{Operand, Made, Typed, TypedAll}
use Rattle.elab_rules.specs.Initialising.{initial}
use Rattle.elab_rules.specs.Expressions.{expression_with, operands_with}

-- what stood in the frame and among the globals stands there still, in front
pub record Follows (before : Work) (now : Work) : Type 0 where
  pub frame : take (length before.frame) now.frame ≡ before.frame
  pub globals : take (length before.globals) now.globals ≡ before.globals

abbrev pub ExpressionsGrow : Type 0
ExpressionsGrow = (s : List Lexeme) (c : Ctx) (l : List Closure) (w : Work) (e : syntax.Tree) (x : Typed) → expression_with s c l w e ≡ Ok x → Follows w x.work

abbrev pub OperandsGrow : Type 0
OperandsGrow = (s : List Lexeme) (c : Ctx) (l : List Closure) (w : Work) (es : syntax.Trees) (x : TypedAll) → operands_with s c l w es ≡ Ok x → Follows w x.work

abbrev pub InitialsGrow : Type 0
InitialsGrow = (c : Ctx) (w : Work) (t : Typ) (o : Operand) (m : Made) → initial c w t o ≡ Ok m → Follows w m.work
