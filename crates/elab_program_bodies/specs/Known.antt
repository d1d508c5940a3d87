-- What holds of the functions of a unit and of the bodies so far, behind each declaration and behind the unit.
use Rattle.std.specs.Prelude.{◌≡◌, ◌≤◌, ℕ, ◌+◌, Bool, true, false, not, ◌&&◌, List, length, slice_get, Option, Some, None}
use Rattle.elab_rules.specs.cpp_types.Typ.{none as no_typs}
use Rattle.elab_rules.specs.cpp_tree.declared.program.FuncKind.TheVariants.{Constructor, Destructor}
use Rattle.elab_rules.specs.cpp_tree.Rows.{is_special}
use Rattle.elab_rules.specs.cpp_tree.Typing.{is_class_typ}
use Rattle.elab_rules.specs.elab_ctx.Ctx.{Func}
use Rattle.elab_rules.specs.Initialising.{func_at, signature_parameters, signature_result}
use Rattle.elab_rules.specs.Programs.{one_if}
use Rattle.elab_rules.specs.Statements.{State, Body}
use Rattle.elab_bodies.specs.Bodies.{number_of, times_made, due_to, AllFit}
use Rattle.elab_bodies.specs.Keeping.{ImplicitsStand}
use Rattle.elab_places.specs.Functions.{copy_words}
use Rattle.elab_places.specs.Round.{Round, round_of, AllOwned}

-- A function that is declared

pub record IsKnown (f : Func) : Type 0 where
  -- a constructor or a destructor has a class
  pub inside : f.class ≡ None → is_special f.kind ≡ false
  -- and no result that is a class
  pub result : is_special f.kind ≡ true → is_class_typ (signature_result f.declared.signature) ≡ false
  -- a destructor has no parameters
  pub params : f.kind ≡ Destructor → signature_parameters f.declared.signature ≡ no_typs
  -- an implicit constructor takes what it copies, or nothing
  pub source : f.implicit ≡ true → f.kind ≡ Constructor
      → number_of (signature_parameters f.declared.signature) ≡ copy_words (signature_parameters f.declared.signature)

pub record AllKnown (funcs : List Func) : Type 0 where
  pub each : (i : ℕ) (f : Func) → slice_get funcs i ≡ Some f → IsKnown f

-- A body: its function is there, with as many parameters as its signature

pub record BodyCounts (funcs : List Func) (b : Body) : Type 0 where
  pub func : Func
  pub at : slice_get funcs b.func ≡ Some func
  pub counted : number_of (signature_parameters func.declared.signature) ≡ length func.params

pub record AllCount (funcs : List Func) (bodies : List Body) : Type 0 where
  pub each : (i : ℕ) (b : Body) → slice_get bodies i ≡ Some b → BodyCounts funcs b

-- A function has one body at most, and none as long as it is not defined, or is an implicit member that waits

abbrev pub most_bodies : Func → Bool → ℕ
most_bodies f waits = one_if (f.is_defined && not (f.implicit && waits))

pub record OneBody (waits : ℕ → Bool) (now : Option ℕ) (funcs : List Func) (bodies : List Body) : Type 0 where
  pub each : (k : ℕ) → times_made k bodies + due_to now k ≤ most_bodies (func_at funcs k) (waits k)

-- All of this, while the body of a function is made that is told, or of none
pub record Stand (waits : ℕ → Bool) (now : Option ℕ) (funcs : List Func) (bodies : List Body) : Type 0 where
  pub fit : AllFit now funcs bodies
  pub implicits : ImplicitsStand now funcs bodies
  pub known : AllKnown funcs
  pub counts : AllCount funcs bodies
  pub once : OneBody waits now funcs bodies

pub record HoldsOf (waits : ℕ → Bool) (r : Round) : Type 0 where
  pub stand : Stand waits None r.funcs r.bodies
  pub owned : AllOwned r

-- behind a declaration: implicit members get their bodies behind the last one

abbrev pub all_wait : ℕ → Bool
all_wait k = true

abbrev pub Holds : State → Type 0
Holds st = HoldsOf all_wait (round_of st)

-- behind the whole unit

abbrev pub none_waits : ℕ → Bool
none_waits k = false

abbrev pub HoldsWhole : State → Type 0
HoldsWhole st = HoldsOf none_waits (round_of st)
