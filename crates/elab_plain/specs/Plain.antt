-- No body of a program that elaboration answers declares an object that a `?:` tells.
use Rattle.std.specs.Prelude.{◌≡◌, true, List, [], ◌∷◌, Ok}
use Rattle.elab_rules.specs.cpp_tree.Units.{TypedProgram}
use Rattle.elab_rules.specs.Statements.{Body}
use Rattle.elab_rules.specs.Programs.{Source, program_of}
use Rattle.elab_places.specs.Bodies.{DefaultsOwn}
use Rattle.elab_places.specs.Round.{Round}
use Rattle.tree_fold.specs.Declaring.{declares_plainly, DeclaresPlainly}

-- the bodies that are made so far
abbrev pub BodiesPlain : List Body → Type 0
BodiesPlain [] = Unit {0}
BodiesPlain (b ∷ bs) = (declares_plainly b.tree ≡ true) × BodiesPlain bs

-- and the initialisers of members, which declare nothing
pub record RoundPlain (r : Round) : Type 0 where
  pub defaults : DefaultsOwn r.defaults
  pub bodies : BodiesPlain r.bodies

abbrev pub ProgramsDeclarePlainly : Type 0
ProgramsDeclarePlainly = (sources : List Source) (p : TypedProgram) → program_of sources ≡ Ok p → DeclaresPlainly p
