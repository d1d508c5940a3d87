-- The laws: each body of each unit of a program is well formed, and its frame begins with the words of a call.
use Rattle.std.specs.Prelude.{◌≡◌, ℕ, true, List, [], ◌++◌, map, take, Option, Some, None, Ok, slice_get}
use Rattle.elab_rules.specs.cpp_types.Typ.{Typ}
use Rattle.elab_rules.specs.cpp_tree.Trees.{Tree}
use Rattle.elab_rules.specs.cpp_tree.Rows.{result_of}
use Rattle.elab_rules.specs.cpp_tree.Units.{Param, Func, Unit, TypedProgram}
use Rattle.elab_rules.specs.cpp_tree.WellFormed.{WellFormedBody}
use Rattle.elab_rules.specs.Functions.{word_item, result_items, this_items}
use Rattle.elab_rules.specs.Programs.{Source, program_of}
use Rattle.elab_bodies.specs.Bodies.{is_object_of}
use Rattle.state_growth.specs.Programs.{unit_setting}
use Rattle.elab_read_texts.specs.Texts.{IsRead}
use Rattle.elab_fits_units.specs.Programs.{AreSources}

-- where sources are as the parser makes them
abbrev pub ProgramsAreWellFormed : Type 0
ProgramsAreWellFormed = (xs : List Source) (p : TypedProgram) → AreSources xs → program_of xs ≡ Ok p → (i k : ℕ) (u : Unit) (f : Func) (tree : Tree)
    → slice_get p.units i ≡ Some u → slice_get u.funcs k ≡ Some f → f.body ≡ Some tree → WellFormedBody (unit_setting p u f) tree

-- a source has the tokens of a text, and the declarations that they derive
pub record IsReadSource (x : Source) : Type 0 where
  pub number : ℕ
  pub text : List ℕ
  pub read : IsRead number text x.tokens x.decls

abbrev pub AreRead : List Source → Type 0
AreRead xs = (i : ℕ) (x : Source) → slice_get xs i ≡ Some x → IsReadSource x

-- such sources are as the parser makes them
abbrev pub ReadAreSources : Type 0
ReadAreSources = (xs : List Source) → AreRead xs → AreSources xs

-- The words of a call: the address of a result that is a class, the address of the object, the parameters. Both addresses are plain pointers.
abbrev pub words_of_call : Func → (object : Option Typ) → List Typ
words_of_call f object = result_items (result_of f) ++ (this_items object ++ map (λ (p : Param). word_item p.typ) f.params)

-- The first items of the frame are these. A member function has an object of its class, and no other has one.
pub record BeginsWithWords (f : Func) : Type 0 where
  pub object : Option Typ
  pub is_object : is_object_of f.class object ≡ true
  pub words : take f.words f.frame ≡ words_of_call f object

-- where there is a body; without one there is no frame
pub record HasCallWords (f : Func) : Type 0 where
  pub bare : f.body ≡ None → f.frame ≡ []
  pub begins : (tree : Tree) → f.body ≡ Some tree → BeginsWithWords f

-- of sources of any kind
abbrev pub ProgramsHaveCallWords : Type 0
ProgramsHaveCallWords = (xs : List Source) (p : TypedProgram) → program_of xs ≡ Ok p → (i k : ℕ) (u : Unit) (f : Func)
    → slice_get p.units i ≡ Some u → slice_get u.funcs k ≡ Some f → HasCallWords f
