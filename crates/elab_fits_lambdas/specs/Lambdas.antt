-- The laws: the body of a lambda begins in a good state, and lambdas lead from good states to good ones.
use Rattle.std.specs.Prelude.{◌≡◌, List}
use Rattle.elab_rules.specs.cpp_types.Typ.{Typ}
use Rattle.elab_rules.specs.cpp_lex.Tokens.{Lexeme}
use Rattle.elab_rules.specs.cpp_ast.Trees as syntax
use Rattle.elab_rules.specs.cpp_tree.declared.program.FuncKind.TheVariants.{ClosureCall}
use Rattle.elab_rules.specs.cpp_tree.Units.{Func as UnitFunc}
use Rattle.elab_rules.specs.elab_ctx.Ctx.{known}
use Rattle.elab_rules.specs.Functions.{with_parameters}
use Rattle.elab_rules.specs.Lambdas.{Written, lambdas_of}
use Rattle.elab_rules.specs.Statements.{State}
use Rattle.elab_fits.specs.Standing.{On}
use Rattle.elab_fits_states.specs.States.{IsGood, IsSettled, AreTexts}
use Rattle.elab_fits_states.specs.Premises.{KeepsGood}
use Rattle.elab_fits_lambdas.specs.Made.{lambda_inside, call_signature, IsLambda}

-- the call of a lambda with this result
pub record IsCall (g : UnitFunc) (x : Written) (r : Typ) : Type 0 where
  pub kind : g.kind ≡ ClosureCall
  pub signature : g.declared.signature ≡ call_signature x r

-- the state in which the statements of a lambda's body begin is a good one of its call
abbrev pub BodiesBegin : Type 0
BodiesBegin = (f : UnitFunc) (s : List Lexeme) (st : State) (kids : syntax.Trees) (y : State) → IsGood f st → AreTexts s kids
    → (h : IsLambda s st kids y) → (g : UnitFunc) → IsCall g h.text h.made.result
    → On (IsSettled g) (with_parameters s (lambda_inside st h.text (known h.made.result) h.made.result (call_signature h.text h.made.result)) h.text.params)

-- in the body of a function that is no call of a lambda
abbrev pub LambdasAreGood : Type 0
LambdasAreGood = (f : UnitFunc) (s : List Lexeme) → (f.kind ≡ ClosureCall → ⊥) → KeepsGood f lambdas_of s
