-- The bodies that a unit shows.
use Rattle.std.specs.Prelude.{◌≡◌, ℕ, ◌≤◌, true, List, slice_get, Some, Ok}
use Rattle.std.specs.List.{list_all}
use Rattle.elab_rules.specs.cpp_lex.Tokens.{Lexeme}
use Rattle.elab_rules.specs.cpp_ast.Trees as syntax
use Rattle.elab_rules.specs.cpp_tree.Trees.{Tree}
use Rattle.elab_rules.specs.cpp_tree.Units.{Func, TypedProgram}
use Rattle.elab_rules.specs.cpp_tree.WellFormed.{is_free_place, places_of, times}
use Rattle.elab_rules.specs.elab_ctx.Ctx.{Traits}
use Rattle.elab_rules.specs.Statements.{State}
use Rattle.elab_rules.specs.Units.{unit_from}
use Rattle.elab_rules.specs.Programs.{unit_shown, start_behind}
use Rattle.elab_bodies.specs.Bodies.{times_made, FitsFunction}
use Rattle.elab_program_bodies.specs.Known.{HoldsWhole}

-- a unit that stands behind others
pub record IsUnit (s : List Lexeme) (decls : syntax.Trees) (st : State) : Type 0 where
  pub source : ℕ
  pub before : TypedProgram
  pub traits : List Traits
  pub made : unit_from s (start_behind source before traits) decls ≡ Ok st

abbrev pub UnitsHold : Type 0
UnitsHold = (s : List Lexeme) (decls : syntax.Trees) (st : State) → IsUnit s decls st → HoldsWhole st

-- each function has one body at most
abbrev pub UnitsHaveOneBody : Type 0
UnitsHaveOneBody = (s : List Lexeme) (decls : syntax.Trees) (st : State) → IsUnit s decls st → (k : ℕ) → times_made k st.bodies ≤ 1

-- what is made in the body has places behind the words of the call, each its own: the fields `within` and `once` of `WellFormedBody`
pub record HasPlaces (f : Func) (tree : Tree) : Type 0 where
  pub within : list_all (is_free_place f) (places_of tree) ≡ true
  pub once : (place : ℕ) → times place (places_of tree) ≤ 1

abbrev pub PlacesShown : Type 0
PlacesShown = (s : List Lexeme) (decls : syntax.Trees) (st : State) → IsUnit s decls st → (k : ℕ) (f : Func) (tree : Tree)
    → slice_get (unit_shown s decls st).funcs k ≡ Some f → f.body ≡ Some tree → HasPlaces f tree

-- the fields `block`, `end` and `words`
abbrev pub FunctionsShown : Type 0
FunctionsShown = (s : List Lexeme) (decls : syntax.Trees) (st : State) → IsUnit s decls st → (k : ℕ) (f : Func) (tree : Tree)
    → slice_get (unit_shown s decls st).funcs k ≡ Some f → f.body ≡ Some tree → FitsFunction f tree
