-- The law: statements of the body of a function fit as items of a block.
use Rattle.std.specs.Prelude.{◌≡◌, false, List}
use Rattle.elab_rules.specs.cpp_lex.Tokens.{Lexeme}
use Rattle.elab_rules.specs.cpp_ast.Trees as syntax
use Rattle.elab_rules.specs.cpp_tree.declared.roles.Role.TheVariants.{BlockItem}
use Rattle.elab_rules.specs.cpp_tree.Units.{Func as UnitFunc}
use Rattle.elab_rules.specs.Statements.{State, Done, Lambdas, statements_of, is_direct_label}
use Rattle.elab_fits.specs.Standing.{On}
use Rattle.elab_fits_statements.specs.Anywhere.{AllServe}
use Rattle.elab_fits_states.specs.States.{AreTexts, setting, Comes, IsSettled}
use Rattle.elab_fits_states.specs.Premises.{KeepsGood}

-- the state behind them is good and came of the one before, and they fit in its setting
pub record BodyFits (f : UnitFunc) (st : State) (d : Done) : Type 0 where
  pub settled : IsSettled f d.state
  pub leads : Comes st d.state
  pub serve : AllServe (setting f d.state) false false BlockItem d.trees

-- no label and no jump out of the body may stand in it
pub record StandsAlone (st : State) : Type 0 where
  pub label : is_direct_label st.ctx.label ≡ false
  pub breaks : st.ctx.breaks ≡ false
  pub continues : st.ctx.continues ≡ false

abbrev pub BodiesFit : Type 0
BodiesFit = (f : UnitFunc) (lams : Lambdas) (s : List Lexeme) (st : State) (ts : syntax.Trees) → KeepsGood f lams s → IsSettled f st → StandsAlone st
    → AreTexts s ts → On (BodyFits f st) (statements_of lams s st ts)
