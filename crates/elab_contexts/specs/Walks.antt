-- Whatever is elaborated, the unit goes on by steps.
use Rattle.std.specs.Prelude.{◌≡◌, ℕ, true, List, Option}
use Rattle.elab_rules.specs.cpp_types.Typ.{Typ}
use Rattle.elab_rules.specs.cpp_lex.Tokens.{Lexeme}
use Rattle.elab_rules.specs.cpp_ast.Trees as syntax
use Rattle.elab_rules.specs.Functions.{Storage, Header, function_body}
use Rattle.elab_rules.specs.Lambdas.{lambdas_of}
use Rattle.elab_rules.specs.Statements.{State, Done, Full, full_operand, statements_of}
use Rattle.elab_rules.specs.Units.{declarations_of, unit_from}
use Rattle.elab_fits.specs.Standing.{On}
use Rattle.elab_contexts.specs.Holding.{HasTypeNames}
use Rattle.elab_contexts.specs.Steps.{view, Steps}
use Rattle.elab_contexts.specs.Texts.{have_class_names}

abbrev pub Walks : State → State → Type 0
Walks a b = Steps (view a.ctx) (view b.ctx)

-- the lambdas of a full-expression, and a full-expression behind them
abbrev pub LambdasWalk : Type 0
LambdasWalk = (s : List Lexeme) (st : State) (e : syntax.Tree) → On (Walks st) (lambdas_of s st e)

abbrev pub OperandsWalk : Type 0
OperandsWalk = (s : List Lexeme) (st : State) (e : syntax.Tree) → On (λ (f : Full). Walks st f.state) (full_operand lambdas_of s st e)

abbrev pub StatementsWalk : Type 0
StatementsWalk = (s : List Lexeme) (st : State) (ts : syntax.Trees) → On (λ (d : Done). Walks st d.state) (statements_of lambdas_of s st ts)

abbrev pub BodiesWalk : Type 0
BodiesWalk = (s : List Lexeme) (st : State) (h : Header) (this : Option Typ) (place : ℕ) (t : syntax.Tree)
    → On (Walks st) (function_body lambdas_of s st h this place t)

-- where names of types stand for classes of the list, and classes have names
abbrev pub DeclarationsWalk : Type 0
DeclarationsWalk = (s : List Lexeme) (x : Storage) (st : State) (ts : syntax.Trees) → HasTypeNames st.ctx.classes st.ctx.types
    → have_class_names s ts ≡ true → On (Walks st) (declarations_of s x st ts)

-- all of a unit, the bodies of implicit members too
abbrev pub UnitsWalk : Type 0
UnitsWalk = (s : List Lexeme) (st : State) (decls : syntax.Trees) → HasTypeNames st.ctx.classes st.ctx.types → have_class_names s decls ≡ true
    → On (Walks st) (unit_from s st decls)
