-- What holds of a state at file scope.
use Rattle.std.specs.Prelude.{◌≡◌, List, []}
use Rattle.elab_rules.specs.cpp_lex.Tokens.{Lexeme}
use Rattle.elab_rules.specs.cpp_tree.Units.{Func as UnitFunc}
use Rattle.elab_rules.specs.Statements.{State}
use Rattle.elab_contexts.specs.Holding.{UnitHolds}
use Rattle.elab_contexts.specs.Overriders.{HasOverriders}
use Rattle.elab_sound_types.specs.States.{IsSoundState}
use Rattle.state_growth.specs.States.{IsTidy}
use Rattle.elab_fits_braces.specs.Defaults.{AllDefaultsFit}
use Rattle.elab_fits_states.specs.States.{setting}
use Rattle.elab_fits_states.specs.Made.{AllBodiesFit}
use Rattle.elab_fits_parts.specs.Parts.{IsHome}
use Rattle.elab_fits_parts.specs.Implicit.{HasImplicits}
use Rattle.elab_fits_units.specs.Named.{IsNamedText, AreNamedTexts, IsTitle}
use Rattle.elab_fits_units.specs.Steps.{Words}

pub record UnitGood (st : State) : Type 0 where
  -- the classes and functions of the unit are as elaboration makes them
  pub unit : UnitHolds st.ctx
  -- what overrides has a name that goes with its kind
  pub overriders : HasOverriders st.ctx.funcs
  -- what is declared has types that can be declared
  pub sound : IsSoundState st
  pub tidy : IsTidy st.ctx
  pub implicits : HasImplicits st.ctx
  -- no full-expression is at hand
  pub none : st.ctx.closures ≡ []
  -- the bodies that were made fit, and so do the initialisers of members
  pub bodies : AllBodiesFit st
  pub defaults : (f : UnitFunc) → AllDefaultsFit (setting f st) st.ctx.defaults

abbrev pub unit_words : List Lexeme → Words
unit_words s = record {
  Good = UnitGood;
  Home = λ (st : State). IsHome st.ctx.classes;
  Text = IsNamedText s;
  Texts = AreNamedTexts s;
  Title = IsTitle s;
}

-- where something holds of states beside
abbrev pub words_with : List Lexeme → (State → Type 0) → Words
words_with s also = record {
  Good = λ (st : State). UnitGood st × also st;
  Home = λ (st : State). IsHome st.ctx.classes;
  Text = IsNamedText s;
  Texts = AreNamedTexts s;
  Title = IsTitle s;
}
