-- The units of a program, and the bodies that they show.
use Rattle.std.specs.Prelude.{◌≡◌, ℕ, List, slice_get, Some, Ok}
use Rattle.elab_rules.specs.cpp_tree.Trees.{Tree}
use Rattle.elab_rules.specs.cpp_tree.Units.{Func, Unit, TypedProgram}
use Rattle.elab_rules.specs.Statements.{State}
use Rattle.elab_rules.specs.Programs.{Source, unit_shown, program_of}
use Rattle.elab_bodies.specs.Bodies.{FitsFunction}
use Rattle.elab_program_bodies.specs.Units.{IsUnit, HasPlaces}

-- the unit is that of the source in this place, shown behind its last declaration
pub record ComesFrom (sources : List Source) (i : ℕ) (u : Unit) : Type 0 where
  pub source : Source
  pub at : slice_get sources i ≡ Some source
  pub state : State
  pub is : IsUnit source.tokens source.decls state
  pub shown : u ≡ unit_shown source.tokens source.decls state

abbrev pub UnitsCome : Type 0
UnitsCome = (sources : List Source) (p : TypedProgram) → program_of sources ≡ Ok p → (i : ℕ) (u : Unit) → slice_get p.units i ≡ Some u → ComesFrom sources i u

-- each body of each unit has its places
abbrev pub ProgramsHavePlaces : Type 0
ProgramsHavePlaces = (sources : List Source) (p : TypedProgram) → program_of sources ≡ Ok p → (i k : ℕ) (u : Unit) (f : Func) (tree : Tree)
    → slice_get p.units i ≡ Some u → slice_get u.funcs k ≡ Some f → f.body ≡ Some tree → HasPlaces f tree

-- and is one of its function
abbrev pub ProgramsFit : Type 0
ProgramsFit = (sources : List Source) (p : TypedProgram) → program_of sources ≡ Ok p → (i k : ℕ) (u : Unit) (f : Func) (tree : Tree)
    → slice_get p.units i ≡ Some u → slice_get u.funcs k ≡ Some f → f.body ≡ Some tree → FitsFunction f tree
