-- Where the lambdas of an expression lead.
use Rattle.std.specs.Prelude.{◌≡◌, List, Ok}
use Rattle.elab_rules.specs.cpp_lex.Tokens.{Lexeme}
use Rattle.elab_rules.specs.cpp_ast.Trees as syntax
use Rattle.elab_rules.specs.cpp_tree.Units.{Func as UnitFunc}
use Rattle.elab_rules.specs.Statements.{State, Lambdas}
use Rattle.elab_fits_statements.specs.Discipline.{StandsAs}
use Rattle.elab_fits_states.specs.States.{IsText, Comes, IsGood}

-- a good state that came of another, in the same place
pub record GoesWell (f : UnitFunc) (a b : State) : Type 0 where
  pub good : IsGood f b
  pub leads : Comes a b
  pub stands : StandsAs a b

-- the lambdas of an expression lead from good states to good ones
abbrev pub KeepsGood : UnitFunc → Lambdas → List Lexeme → Type 0
KeepsGood f lams s = (a b : State) (e : syntax.Tree) → IsGood f a → IsText s e → lams s a e ≡ Ok b → GoesWell f a b
