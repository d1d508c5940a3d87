-- Frames of bodies that are made: their items stay whole, and are those that the unit shows.
use Rattle.std.specs.Prelude.{◌≡◌, ℕ, true, List, slice_get, Some, Ok}
use Rattle.std.specs.List.{list_all}
use Rattle.elab_rules.specs.cpp_types.Class.{Class}
use Rattle.elab_rules.specs.cpp_lex.Tokens.{Lexeme}
use Rattle.elab_rules.specs.cpp_ast.Trees as syntax
use Rattle.elab_rules.specs.cpp_tree.Units.{Func}
use Rattle.elab_rules.specs.cpp_tree.WellFormed.{is_item}
use Rattle.elab_rules.specs.elab_ctx.Ctx.{Work, Default}
use Rattle.elab_rules.specs.Statements.{State, Body}
use Rattle.elab_rules.specs.Lambdas.{lambdas_of}
use Rattle.elab_rules.specs.Programs.{unit_shown}
use Rattle.setting_growth.specs.Growth.{ClassesGrow}
use Rattle.elab_frame_items.specs.Items.{AreWhole, DefaultsWhole}

-- what makes the lambdas of a full-expression leaves the frame, and complete classes complete
abbrev pub LambdasWhole : Type 0
LambdasWhole = (s : List Lexeme) (st : State) (t : syntax.Tree) (x : State) → AreWhole st.ctx.classes st.work → lambdas_of s st t ≡ Ok x
    → AreWhole x.ctx.classes x.work

pub record FramesWhole (classes : List Class) (bodies : List Body) : Type 0 where
  pub each : (i : ℕ) (b : Body) → slice_get bodies i ≡ Some b → list_all (is_item classes) b.frame ≡ true

-- all items of a state are whole: of the frame at hand, of the bodies that were made, and of initialisers that are kept for members
pub record HasWholeItems (classes : List Class) (w : Work) (ds : List Default) (made : List Body) : Type 0 where
  pub items : AreWhole classes w
  pub defaults : DefaultsWhole classes ds
  pub bodies : FramesWhole classes made

abbrev pub IsWholeState : State → Type 0
IsWholeState st = HasWholeItems st.ctx.classes st.work st.ctx.defaults st.bodies

abbrev pub FramesGrow : Type 0
FramesGrow = (old new : List Class) (bodies : List Body) → ClassesGrow old new → FramesWhole old bodies → FramesWhole new bodies

-- the same of initialisers that are kept for members
abbrev pub DefaultsGrow : Type 0
DefaultsGrow = (old new : List Class) (ds : List Default) → ClassesGrow old new → DefaultsWhole old ds → DefaultsWhole new ds

-- the field `items` of each body that a unit shows, in the classes of the unit or of the program
abbrev pub FramesShown : Type 0
FramesShown = (s : List Lexeme) (decls : syntax.Trees) (st : State) (classes : List Class) → ClassesGrow st.ctx.classes classes
    → FramesWhole st.ctx.classes st.bodies → (k : ℕ) (f : Func) → slice_get (unit_shown s decls st).funcs k ≡ Some f
    → list_all (is_item classes) f.frame ≡ true
