-- What initialises objects of class type fits where it comes to stand.
use Rattle.std.specs.Prelude.{◌≡◌, ℕ, Bool, true, false, List, length, Some, slice_get}
use Rattle.elab_rules.specs.cpp_overload.Overload.{Candidate, Argument, count_of}
use Rattle.elab_rules.specs.cpp_overload.Choosing.{chosen, best, is_viable}
use Rattle.elab_rules.specs.cpp_types.Typ.{Typ, typ, class, Typs}
use Rattle.elab_rules.specs.cpp_types.Class.{Class}
use Rattle.elab_rules.specs.cpp_types.declared.classes.At.{At}
use Rattle.elab_rules.specs.cpp_tree.declared.roles.Role.TheVariants.{Word}
use Rattle.elab_rules.specs.cpp_tree.Trees.{Tree, Trees, typ_in, cat_of}
use Rattle.elab_rules.specs.cpp_tree.Typing.{head_of, is_class_typ, is_class_prvalue, is_word, are_words, passed as passed_word}
use Rattle.elab_rules.specs.cpp_tree.Rows.{Setting, param_words}
use Rattle.elab_rules.specs.cpp_tree.WellFormed.{heads_of}
use Rattle.elab_rules.specs.elab_ctx.Ctx.{Ctx, Work}
use Rattle.elab_rules.specs.elab_ctx.Steps.{Operand, Made, MadeAll}
use Rattle.elab_rules.specs.Initialising.{object_of, class_from, exact_object, passed, words, constructed, from_nothing, scalar_from, exception_from, from_values}
use Rattle.elab_rules.specs.Casts.{cast, functional}
use Rattle.elab_fits.specs.Standing.{FitsAs, Stands, BuildsOne, IsSetting, Reaches, On}
use Rattle.elab_fits.specs.Objects.{AllFit}
use Rattle.elab_fits_objects.specs.Contexts.{IsObjectTyp, IsParameter, AreParameters, IsInitialised, HasMakers, IsSource, AreSources, copies_itself}

-- The object of an operand

-- it stands, and is no prvalue of a class any more: one has a temporary, which has its place in the frame
pub record IsPlaced (s : Setting) (e : Tree) : Type 0 where
  pub stands : Stands s e
  pub value : is_class_prvalue (typ_in e) (cat_of e) ≡ false

abbrev pub ObjectsPlaced : Type 0
ObjectsPlaced = (s : Setting) (c : Ctx) (lambda : ℕ → Bool) (w : Work) (o : Operand) → IsSetting s c → HasMakers c lambda → IsSource s c lambda o
    → Reaches s (object_of c w o.at o.tree).work → IsPlaced s (object_of c w o.at o.tree).tree

-- Objects of class type (C++14 8.5 p17)

-- what builds an object of a type, from which a copy can be made
pub record Makes (s : Setting) (t : Typ) (e : Tree) : Type 0 where
  pub one : BuildsOne s t e
  pub copied : copies_itself e ≡ true

-- of exactly its type
pub record MakesExactly (s : Setting) (t : Typ) (e : Tree) : Type 0 where
  pub makes : Makes s t e
  pub typed : typ_in e ≡ t

abbrev pub ClassesBuild : Type 0
ClassesBuild = (s : Setting) (c : Ctx) (lambda : ℕ → Bool) (w : Work) (t : Typ) (at : At) (o : Operand) → IsSetting s c → HasMakers c lambda
    → IsSource s c lambda o → IsObjectTyp c lambda t
    → On (λ (m : Made). Reaches s m.work → Makes s t m.tree) (class_from c w t at o)

abbrev pub ExactsBuild : Type 0
ExactsBuild = (s : Setting) (c : Ctx) (lambda : ℕ → Bool) (w : Work) (t : Typ) (at : At) (o : Operand) → IsSetting s c → HasMakers c lambda
    → IsSource s c lambda o → IsObjectTyp c lambda t
    → On (λ (m : Made). Reaches s m.work → MakesExactly s t m.tree) (exact_object c w t at o)

-- Words of calls (C++14 5.2.2)

-- the word for a parameter
pub record IsWord (s : Setting) (p : Typ) (e : Tree) : Type 0 where
  pub fits : FitsAs s Word e
  pub right : is_word (passed_word p) (head_of e) ≡ true

abbrev pub WordsPass : Type 0
WordsPass = (s : Setting) (c : Ctx) (lambda : ℕ → Bool) (w : Work) (p : Typ) (o : Operand) → IsSetting s c → HasMakers c lambda → IsSource s c lambda o
    → IsParameter c lambda p → On (λ (m : Made). Reaches s m.work → IsWord s p m.tree) (passed c w p o)

-- the words for all parameters of a signature, as a call has them behind its object
pub record WordsFit (s : Setting) (ps : Typs) (ts : Trees) : Type 0 where
  pub fit : AllFit s Word ts
  pub right : are_words (param_words ps) (heads_of ts) ≡ true

-- where there are as many operands as parameters, as of a candidate that is viable
abbrev pub AllWordsFit : Type 0
AllWordsFit = (s : Setting) (c : Ctx) (lambda : ℕ → Bool) (w : Work) (ps : Typs) (os : List Operand) → IsSetting s c → HasMakers c lambda
    → AreSources s c lambda os → AreParameters c lambda ps → count_of ps ≡ length os
    → On (λ (m : MadeAll). Reaches s m.work → WordsFit s ps m.trees) (words c w ps os)

-- what was made before the words stands where they do
abbrev pub WordsKeep : Type 0
WordsKeep = (s : Setting) (c : Ctx) (w : Work) (ps : Typs) (os : List Operand) → On (λ (m : MadeAll). Reaches s m.work → Reaches s w) (words c w ps os)

pub record IsViableOne (classes : List Class) (cands : List Candidate) (args : List Argument) (i : ℕ) : Type 0 where
  pub candidate : Candidate
  pub at : slice_get cands i ≡ Some candidate
  pub viable : is_viable classes args candidate ≡ true

-- the candidate that is meant is viable
abbrev pub ChosenViable : Type 0
ChosenViable = (classes : List Class) (cands : List Candidate) (args : List Argument) (i : ℕ) → chosen classes cands args ≡ best i
    → IsViableOne classes cands args i

-- Objects from nothing, and from values in parentheses (C++14 8.5 p12, p16)

abbrev pub NothingBuilds : Type 0
NothingBuilds = (s : Setting) (c : Ctx) (lambda : ℕ → Bool) (t : Typ) (at : At) → IsSetting s c → HasMakers c lambda → IsObjectTyp c lambda t
    → On (Makes s t) (from_nothing c t at)

abbrev pub ConstructorsBuild : Type 0
ConstructorsBuild = (s : Setting) (c : Ctx) (lambda : ℕ → Bool) (w : Work) (n : ℕ) (q v : Bool) (at : At) (os : List Operand) → IsSetting s c
    → HasMakers c lambda → AreSources s c lambda os → IsObjectTyp c lambda (typ (class n) q v)
    → On (λ (m : Made). Reaches s m.work → Makes s (typ (class n) q v) m.tree) (constructed c w n (typ (class n) q v) at os)

-- a scalar or a reference
abbrev pub ScalarsBuild : Type 0
ScalarsBuild = (s : Setting) (c : Ctx) (lambda : ℕ → Bool) (w : Work) (t : Typ) (o : Operand) → IsSetting s c → HasMakers c lambda → IsSource s c lambda o
    → IsParameter c lambda t → is_class_typ t ≡ false → On (λ (m : Made). Reaches s m.work → MakesExactly s t m.tree) (scalar_from c w t o)

-- the value in a `std::tx_exception`, which has exactly its type
abbrev pub ExceptionsBuild : Type 0
ExceptionsBuild = (s : Setting) (c : Ctx) (lambda : ℕ → Bool) (w : Work) (t : Typ) (at : At) (os : List Operand) → IsSetting s c → HasMakers c lambda
    → AreSources s c lambda os → IsParameter c lambda t → On (λ (m : Made). Reaches s m.work → MakesExactly s t m.tree) (exception_from c w t at os)

-- a scalar, a reference, a class, or an array of which nothing is written
abbrev pub ValuesBuild : Type 0
ValuesBuild = (s : Setting) (c : Ctx) (lambda : ℕ → Bool) (w : Work) (t : Typ) (at : At) (os : List Operand) → IsSetting s c → HasMakers c lambda
    → AreSources s c lambda os → IsInitialised c lambda t
    → On (λ (m : Made). Reaches s m.work → Makes s t m.tree) (from_values c w t at os)

-- Objects that casts make, as expressions (C++14 5.2.3, 5.2.9, 5.4)

-- an expression that initialises objects in turn
abbrev pub IsSourceTree : Setting → Ctx → (ℕ → Bool) → Tree → Type 0
IsSourceTree s c lambda e = (at : At) → IsSource s c lambda (record { tree = e; at = at; zero = false })

abbrev pub CastsStand : Type 0
CastsStand = (s : Setting) (c : Ctx) (lambda : ℕ → Bool) (w : Work) (at : At) (t : Typ) (o : Operand) → IsSetting s c → HasMakers c lambda
    → IsSource s c lambda o → is_class_typ t ≡ true → IsObjectTyp c lambda t
    → On (λ (m : Made). Reaches s m.work → IsSourceTree s c lambda m.tree) (cast c w at t o)

-- `T(a, ..)`
abbrev pub FunctionalsStand : Type 0
FunctionalsStand = (s : Setting) (c : Ctx) (lambda : ℕ → Bool) (w : Work) (at : At) (t : Typ) (os : List Operand) → IsSetting s c → HasMakers c lambda
    → AreSources s c lambda os → is_class_typ t ≡ true → IsObjectTyp c lambda t
    → On (λ (m : Made). Reaches s m.work → IsSourceTree s c lambda m.tree) (functional c w at t os)
