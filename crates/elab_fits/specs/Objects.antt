-- What builds and destroys whole objects fits where they come to stand.
use Rattle.std.specs.Prelude.{◌≡◌, ℕ, zero, suc, Bool, true, false, not, ◌&&◌, ◌||◌, nat_lt, List, length, Some, is_some, slice_get}
use Rattle.std.specs.List.{list_all}
use Rattle.elab_rules.specs.cpp_types.Typ.{Typ, typ, Form, int, enum, null, ptr, ref, array, class, closure, tx_ex}
use Rattle.elab_rules.specs.cpp_types.Class.{Class}
use Rattle.elab_rules.specs.cpp_types.declared.classes.At.{At}
use Rattle.elab_rules.specs.cpp_tree.declared.program.FuncKind.TheVariants.{Destructor}
use Rattle.elab_rules.specs.cpp_tree.declared.roles.Role.{Role}
use Rattle.elab_rules.specs.cpp_tree.declared.roles.Role.TheVariants.{CopyInit, Destruction}
use Rattle.elab_rules.specs.cpp_tree.Trees.{Tree, Trees, none, more}
use Rattle.elab_rules.specs.cpp_tree.Typing.{head_of, builds, form_in}
use Rattle.elab_rules.specs.cpp_tree.Parts.{size_in}
use Rattle.elab_rules.specs.cpp_tree.Rows.{Setting, are_destructions}
use Rattle.elab_rules.specs.cpp_tree.WellFormed.{heads_of, is_zero, zeroes}
use Rattle.elab_rules.specs.elab_ctx.Ctx.{Ctx, Func, function}
use Rattle.elab_rules.specs.Functions.{untyped}
use Rattle.elab_rules.specs.Objects.{Part, parts_of, zeros, copies, traits_at, destroys, element_of, is_array}
use Rattle.elab_fits.specs.Standing.{FitsAs, BuildsOne, IsSetting}

-- Types whose objects are built scalar by scalar

-- a scalar or a class, as the value in a `std::tx_exception` is
abbrev pub is_single : Form → Bool
is_single (int k) = true
is_single (enum n s) = true
is_single null = true
is_single (ptr t) = true
is_single (class n) = true
is_single (closure n) = true
is_single f = false

-- Each array has an element, and no array or reference has qualifiers of its own; `references` says that there may be references. The classes are those
-- of which `of_class` says so
abbrev mutual
  pub typ_ready : (of_class : ℕ → Bool) → (references : Bool) → Typ → Bool
  typ_ready of_class references (typ f c v) = form_ready of_class references (c || v) f

  pub form_ready : (of_class : ℕ → Bool) → (references own : Bool) → Form → Bool
  form_ready of_class references own (int k) = true
  form_ready of_class references own (enum n s) = true
  form_ready of_class references own null = true
  form_ready of_class references own (ptr t) = true
  form_ready of_class references own (ref t) = references && not own
  form_ready of_class references own (array t n) = not own && (nat_lt 0 n && typ_ready of_class references t)
  form_ready of_class references own (class n) = of_class n
  form_ready of_class references own (closure n) = of_class n
  form_ready of_class references own (tx_ex (typ f c v)) = is_single f && form_ready of_class references false f
  form_ready of_class references own f = false

abbrev pub part_ready : (of_class : ℕ → Bool) → (references : Bool) → Part → Bool
part_ready of_class references p = typ_ready of_class references p.typ

-- the types of its parts are such, whose classes nest no deeper than `depth`
abbrev pub class_ready : (depth : ℕ) → List Class → (references : Bool) → ℕ → Bool
class_ready zero classes references n = true
class_ready (suc depth) classes references n = list_all (part_ready (class_ready depth classes references) references) (parts_of classes n)

-- the type and those of all parts of its objects are such
abbrev pub is_ready : List Class → (references : Bool) → Typ → Bool
is_ready classes references t = typ_ready (class_ready (length classes) classes references) references t

-- Laws

-- where the parts of all classes of a kind are such, with classes of that kind in them, so are the types that hold classes of that kind
abbrev pub ReadyFrom : Type 0
ReadyFrom = (classes : List Class) (references : Bool) (of_class : ℕ → Bool)
    → ((n : ℕ) → of_class n ≡ true → list_all (part_ready of_class references) (parts_of classes n) ≡ true) → (t : Typ)
    → typ_ready of_class references t ≡ true → is_ready classes references t ≡ true

-- where a type has a size and no references in it, zeros build an object of it
abbrev pub ZerosBuild : Type 0
ZerosBuild = (s : Setting) (c : Ctx) (at : At) (t : Typ) → IsSetting s c → is_some (size_in c.classes t) ≡ true → is_ready c.classes false t ≡ true
    → BuildsOne s t (zeros c.classes at t)

-- what copies an object of a type
pub record CopiesOne (s : Setting) (t : Typ) (e : Tree) : Type 0 where
  pub fits : FitsAs s CopyInit e
  pub builds : builds t (head_of e) ≡ true

-- where a type has a size, its objects are copied scalar by scalar
abbrev pub CopiesBuild : Type 0
CopiesBuild = (s : Setting) (c : Ctx) (at : At) (t : Typ) → IsSetting s c → is_some (size_in c.classes t) ≡ true → is_ready c.classes true t ≡ true
    → CopiesOne s t (copies c.classes at t)

-- where a type has a size, zeros without the types of objects are those of an object of it whose type is told by that of a result
abbrev pub ResultsZeroed : Type 0
ResultsZeroed = (s : Setting) (c : Ctx) (at : At) (t : Typ) → IsSetting s c → is_some (size_in c.classes t) ≡ true → is_ready c.classes true t ≡ true
    → zeroes s.classes false t (untyped (zeros c.classes at t)) ≡ true

-- zeros are nothing but zeros
abbrev pub ZerosAreZero : Type 0
ZerosAreZero = (classes : List Class) (at : At) (t : Typ) → is_zero (zeros classes at t) ≡ true

-- Destructions

-- the function of the unit that is the destructor of a class
pub record IsDestructorOf (c : Ctx) (n k : ℕ) : Type 0 where
  pub func : Func
  pub at : slice_get c.funcs k ≡ Some func
  pub kind : func.kind ≡ Destructor
  pub class : func.class ≡ Some n

-- what the context says of its classes agrees with its functions
pub record HasSpecials (c : Ctx) : Type 0 where
  pub destructors : (n k : ℕ) → (traits_at c n).destructor ≡ function k → IsDestructorOf c n k

abbrev pub is_closure : Form → Bool
is_closure (closure n) = true
is_closure f = false

-- an array of lambdas' objects
abbrev pub has_lambdas : Typ → Bool
has_lambdas t = is_array t && is_closure (form_in (element_of t))

abbrev pub AllFit : Setting → Role → Trees → Type 0
AllFit s role none = Unit {0}
AllFit s role (more t ts) = FitsAs s role t × AllFit s role ts

-- what destroys an object of a type
pub record DestroysOne (s : Setting) (t : Typ) (ts : Trees) : Type 0 where
  pub fit : AllFit s Destruction ts
  pub right : are_destructions s t (heads_of ts) ≡ true

-- where a type has a size and is no array of lambdas' objects, its destructions are those of an object of it
abbrev pub DestructionsFit : Type 0
DestructionsFit = (s : Setting) (c : Ctx) (at : At) (t : Typ) → IsSetting s c → HasSpecials c → is_some (size_in c.classes t) ≡ true
    → is_ready c.classes true t ≡ true → has_lambdas t ≡ false → DestroysOne s t (destroys c at t)

-- The elements of an array

pub record IsElementType (classes : List Class) (references : Bool) (t : Typ) : Type 0 where
  pub sized : is_some (size_in classes t) ≡ true
  pub ready : is_ready classes references t ≡ true
  pub single : has_lambdas t ≡ false

-- where the laws hold of an array, they hold of its elements, through all its bounds
abbrev pub ElementsReady : Type 0
ElementsReady = (classes : List Class) (references : Bool) (t : Typ) → is_some (size_in classes t) ≡ true → is_ready classes references t ≡ true
    → IsElementType classes references (element_of t)
