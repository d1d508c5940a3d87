-- What makes the lambdas of an expression.
use Rattle.std.specs.Prelude.{◌≡◌, List, Ok}
use Rattle.elab_rules.specs.cpp_lex.Tokens.{Lexeme}
use Rattle.elab_rules.specs.cpp_ast.Trees as syntax
use Rattle.elab_rules.specs.cpp_tree.Units.{Func as UnitFunc}
use Rattle.elab_rules.specs.Lambdas.{lambdas_of, no_lambda}
use Rattle.elab_rules.specs.Statements.{State}
use Rattle.elab_contexts.specs.Overriders.{HasOverriders}
use Rattle.elab_fits_forms.specs.Expressions.{ClosuresHold}
use Rattle.elab_fits_states.specs.Made.{AllBodiesFit}
use Rattle.elab_fits_states.specs.Premises.{KeepsGood}
use Rattle.elab_fits_states.specs.States.{IsText, IsGood}

-- in a lambda's body, that there is none
abbrev pub NoLambdasKeep : Type 0
NoLambdasKeep = (f : UnitFunc) (s : List Lexeme) → KeepsGood f no_lambda s

-- what is asked of the state behind the lambdas of an expression beside its unit, its types and its place
pub record IsLeft (st : State) : Type 0 where
  pub overriders : HasOverriders st.ctx.funcs
  pub closures : ClosuresHold st.ctx st.ctx.closures
  pub bodies : AllBodiesFit st

-- elsewhere: where that holds of the states behind them, those are good, and came of the ones before
abbrev pub LambdasKeep : Type 0
LambdasKeep = (f : UnitFunc) (s : List Lexeme)
    → ((a b : State) (e : syntax.Tree) → IsGood f a → IsText s e → lambdas_of s a e ≡ Ok b → IsLeft b) → KeepsGood f lambdas_of s
