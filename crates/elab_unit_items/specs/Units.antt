-- Items of a unit between its declarations, and of a program.
use Rattle.std.specs.Prelude.{◌≡◌, ℕ, true, false, List, Some, Ok, slice_get}
use Rattle.std.specs.List.{list_all}
use Rattle.elab_rules.specs.cpp_types.Class.{Class}
use Rattle.elab_rules.specs.cpp_types.declared.classes.At.{At}
use Rattle.elab_rules.specs.cpp_lex.Tokens.{Lexeme}
use Rattle.elab_rules.specs.cpp_ast.Trees as syntax
use Rattle.elab_rules.specs.cpp_tree.Units.{Func, Unit as UnitTree, TypedProgram}
use Rattle.elab_rules.specs.cpp_tree.WellFormed.{is_item}
use Rattle.elab_rules.specs.elab_ctx.Ctx.{Ctx, Default}
use Rattle.elab_rules.specs.Classes.{Home, Members}
use Rattle.elab_rules.specs.Types.{is_nothing}
use Rattle.elab_rules.specs.Programs.{Source, program_of}
use Rattle.elab_rules.specs.Statements.{State, Body}
use Rattle.setting_growth.specs.Growth.{ClassesGrow}
use Rattle.elab_frame_items.specs.Items.{DefaultsWhole}
use Rattle.elab_frame_items.specs.Frames.{FramesWhole}
use Rattle.elab_fits_units.specs.Good.{UnitGood}
use Rattle.elab_fits_units.specs.Programs.{AreSources}
use Rattle.elab_fits_units.specs.Steps.{Words, IsClosed}
use Rattle.elab_fits_parts.specs.Parts.{IsHome}
use Rattle.elab_fits_states.specs.States.{IsText, AreTexts}

-- items of the bodies that were made are whole, and those of initialisers that are kept for members
pub record HasWholeBodies (classes : List Class) (ds : List Default) (made : List Body) : Type 0 where
  pub defaults : DefaultsWhole classes ds
  pub bodies : FramesWhole classes made

abbrev pub IsWholeUnit : State → Type 0
IsWholeUnit st = HasWholeBodies st.ctx.classes st.ctx.defaults st.bodies

-- the words of a walk over the declarations of a unit, where states are good if all items are whole too
abbrev pub with_whole : Words → Words
with_whole w = record { Good = λ (st : State). w.Good st × IsWholeUnit st; Home = w.Home; Text = w.Text; Texts = w.Texts; Title = w.Title }

-- What is asked of such words: states are good ones of elab_fits_units, texts are as the parser makes them, and behind a class up to its brace classes have
-- grown
pub record GivesUnit (w : Words) (s : List Lexeme) : Type 0 where
  pub good : (st : State) → w.Good st → UnitGood st
  pub home : (st : State) (n : ℕ) → w.Home st n → IsHome st.ctx.classes n
  pub text : (t : syntax.Tree) → w.Text t → IsText s t
  pub texts : (ts : syntax.Trees) → w.Texts ts → AreTexts s ts
  pub grown : (st : State) (at : At) (name : List ℕ) (kids : syntax.Trees) (h : Home) (r : Members) (c : Ctx) → w.Good st → is_nothing name ≡ false
      → w.Title name → w.Texts kids → IsClosed s st at name kids h r c → ClassesGrow st.ctx.classes c.classes

-- Programs: the field `items` of `WellFormedBody`, for each function of each unit

abbrev pub UnitItems : TypedProgram → UnitTree → Type 0
UnitItems p u = (k : ℕ) (f : Func) → slice_get u.funcs k ≡ Some f → list_all (is_item p.classes) f.frame ≡ true

abbrev pub AllUnitsItems : TypedProgram → Type 0
AllUnitsItems p = (i : ℕ) (u : UnitTree) → slice_get p.units i ≡ Some u → UnitItems p u

abbrev pub ProgramsHaveItems : Type 0
ProgramsHaveItems = (xs : List Source) (p : TypedProgram) → AreSources xs → program_of xs ≡ Ok p → AllUnitsItems p
