-- What the declarations of a unit make, step by step, of its classes and functions.
use Rattle.std.specs.Prelude.{◌≡◌, ℕ, Bool, ◌&&◌, true, false, not, nat_le, List, [], ◌∷◌, ◌++◌, length, Option, Some, None, is_some, slice_get, slice_set}
use Rattle.std.specs.Str.{bytes_eq}
use Rattle.elab_rules.specs.cpp_types.Typ.{Typ, typ, class, closure}
use Rattle.elab_rules.specs.cpp_types.Equal.{typs_eq, flag_eq}
use Rattle.elab_rules.specs.cpp_types.Class.{Class, Member, Function, completion_of, held}
use Rattle.elab_rules.specs.cpp_types.declared.classes.At.{At}
use Rattle.elab_rules.specs.cpp_layout.Layout.{class_extent}
use Rattle.elab_rules.specs.cpp_layout.declared.extents.TheConstants.{GREATEST_SIZE}
use Rattle.elab_rules.specs.cpp_tree.declared.program.FuncKind.TheVariants.{Plain}
use Rattle.elab_rules.specs.cpp_tree.Typing.{passes, is_reference}
use Rattle.elab_rules.specs.cpp_tree.Units.{SlotFunc}
use Rattle.elab_rules.specs.elab_ctx.Ctx.{Ctx, Func, Traits, Capture}
use Rattle.elab_rules.specs.Objects.{no_traits}
use Rattle.elab_rules.specs.Initialising.{signature_parameters}
use Rattle.elab_rules.specs.Names.{same_variable}
use Rattle.elab_rules.specs.Functions.{first_from, same_kind}
use Rattle.elab_rules.specs.Types.{Parameter, is_bounded}
use Rattle.elab_rules.specs.Classes.{Home, class_named, completed}
use Rattle.elab_rules.specs.Lambdas.{with_closure}
use Rattle.elab_contexts.specs.Texts.{is_no_name}

-- the classes and functions of a unit
pub record View : Type 0 where
  pub classes : List Class
  pub traits : List Traits
  pub slots : List (List SlotFunc)
  pub funcs : List Func

abbrev pub view : Ctx → View
view c = record {
  classes = c.classes;
  traits = c.traits;
  slots = c.slots;
  funcs = c.funcs;
}

-- the same function: its name, its class, its parameters and `const`, and its kind
abbrev pub is_same_declared : Func → Func → Bool
is_same_declared g f = bytes_eq f.declared.name g.declared.name && same_variable f.class g.class
    && typs_eq (signature_parameters f.declared.signature) (signature_parameters g.declared.signature) && flag_eq f.declared.is_const g.declared.is_const
    && same_kind f.kind g.kind

-- a class of the list that is not complete yet
pub record IsOpen (classes : List Class) (n : ℕ) : Type 0 where
  pub class : Class
  pub at : slice_get classes n ≡ Some class
  pub incomplete : class.complete ≡ None

-- a text declares a function, at file scope or in a class: at file scope it is a plain one
pub record FunctionAdded (a b : View) : Type 0 where
  pub func : Func
  pub is : b ≡ record a { funcs = a.funcs ++ func ∷ [] }
  pub unknown : func.builtin ≡ None
  pub written : func.implicit ≡ false
  pub free : func.class ≡ None → func.kind ≡ Plain
  -- its class is still open, and no other function is the same
  pub unclosed : (n : ℕ) → func.class ≡ Some n → IsOpen a.classes n
  pub fresh : first_from (is_same_declared func) 0 a.funcs ≡ None

-- what a function keeps where it is defined
pub record SameFunction (f g : Func) : Type 0 where
  pub declared : g.declared ≡ f.declared
  pub kind : g.kind ≡ f.kind
  pub class : g.class ≡ f.class
  pub builtin : g.builtin ≡ f.builtin
  pub implicit : g.implicit ≡ f.implicit

pub record FunctionDefined (a b : View) : Type 0 where
  pub place : ℕ
  pub func : Func
  pub is : b ≡ record a { funcs = slice_set a.funcs place func }
  pub same : (f : Func) → slice_get a.funcs place ≡ Some f → SameFunction f func

-- a class is named for the first time
pub record ClassNamed (a b : View) : Type 0 where
  pub name : List ℕ
  pub named : is_no_name name ≡ false
  pub is : b ≡ record a {
    classes = a.classes ++ class_named name None false [] [] None ∷ [];
    traits = a.traits ++ no_traits ∷ [];
    slots = a.slots ++ [] ∷ [];
  }

-- what objects hold by value is complete
abbrev pub IsWhole : List Class → Option ℕ → Type 0
IsWhole classes o = (n : ℕ) → o ≡ Some n → is_some (completion_of classes n) ≡ true

-- a class of the list that has a name
abbrev pub has_name : List Class → ℕ → Bool
has_name classes n = passes (λ (k : Class). not (is_no_name k.name)) (slice_get classes n)

-- the type of a lambda's object is not written in a text, and a class that is has a name
abbrev pub is_written : List Class → Typ → Bool
is_written classes (typ (class n) c v) = has_name classes n
is_written classes (typ (closure n) c v) = false
is_written classes t = true

-- a base has a name
abbrev pub IsBase : List Class → Option ℕ → Type 0
IsBase classes o = (n : ℕ) → o ≡ Some n → has_name classes n ≡ true

-- a data member is an object
pub record IsMember (classes : List Class) (m : Member) : Type 0 where
  pub written : is_written classes m.typ ≡ true
  pub object : is_reference m.typ ≡ false
  pub bounded : is_bounded m.typ ≡ true
  pub whole : IsWhole classes (held m.typ)

-- a class that was not complete gets its brace
pub record ClassCompleted (a b : View) : Type 0 where
  pub ctx : Ctx
  pub home : Home
  pub at : At
  pub members : List Member
  pub initialised : List ℕ
  pub before : view ctx ≡ a
  pub is : b ≡ view (completed ctx home at members initialised)
  pub unclosed : IsOpen a.classes home.number
  pub named : is_no_name home.name ≡ false
  pub based : IsWhole a.classes home.base
  pub base : IsBase a.classes home.base
  pub are : (i : ℕ) (m : Member) → slice_get members i ≡ Some m → IsMember a.classes m
  pub sized : nat_le (class_extent b.classes home.number).size GREATEST_SIZE ≡ true

-- a lambda has its class and its call
pub record ClosureAdded (a b : View) : Type 0 where
  pub ctx : Ctx
  pub captures : List Capture
  pub declared : Function
  pub params : List Parameter
  pub closed : ℕ
  pub before : view ctx ≡ a
  pub whole : (i : ℕ) (x : Capture) → slice_get captures i ≡ Some x → IsWhole a.classes (held x.typ)
  pub is : b ≡ view (with_closure ctx captures declared params closed)
  pub sized : nat_le (class_extent b.classes (length a.classes)).size GREATEST_SIZE ≡ true

pub data Step (a b : View) : Type 0 where
  function_added : FunctionAdded a b → Step a b
  function_defined : FunctionDefined a b → Step a b
  class_begun : ClassNamed a b → Step a b
  class_completed : ClassCompleted a b → Step a b
  closure_added : ClosureAdded a b → Step a b

-- some steps, one behind the other
pub data Steps (a : View) : View → Type 0 where
  none_yet : Steps a a
  and_one : {b c : View} → Steps a b → Step b c → Steps a c
