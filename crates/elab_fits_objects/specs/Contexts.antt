-- What a context supplies to the laws of objects of class type: its types, its functions, and operands that are typed in it.
use Rattle.std.specs.Prelude.{◌≡◌, ℕ, Bool, true, false, not, ◌&&◌, ◌||◌, List, [], ◌∷◌, Some, is_some, slice_get}
use Rattle.elab_rules.specs.cpp_types.Typ.{Typ, typ, Form, ref, class, closure, tx_ex, Typs, none as no_typs, more as and_typ}
use Rattle.elab_rules.specs.cpp_types.Class.{Class}
use Rattle.elab_rules.specs.cpp_types.Equal.{form_eq}
use Rattle.elab_rules.specs.cpp_types.Conversion.{is_object_form}
use Rattle.elab_rules.specs.cpp_types.Trivial.{takes_itself}
use Rattle.elab_rules.specs.cpp_types.declared.ranks.Cat.TheVariants.{Lvalue}
use Rattle.elab_rules.specs.cpp_tree.declared.kinds.TKind.TheVariants.{CopyFrom}
use Rattle.elab_rules.specs.cpp_tree.declared.program.FuncKind.TheVariants.{Constructor}
use Rattle.elab_rules.specs.cpp_tree.Trees.{Tree, node, more, typ_in, cat_of}
use Rattle.elab_rules.specs.cpp_tree.Typing.{form_in, is_void, is_class_prvalue}
use Rattle.elab_rules.specs.cpp_tree.Parts.{size_in, holds_complete}
use Rattle.elab_rules.specs.cpp_tree.Rows.{Setting}
use Rattle.elab_rules.specs.elab_ctx.Ctx.{Ctx, Func, function}
use Rattle.elab_rules.specs.elab_ctx.Steps.{Operand}
use Rattle.elab_rules.specs.Values.{builder}
use Rattle.elab_rules.specs.Objects.{Part, parts_of, traits_at, element_of, is_array}
use Rattle.elab_rules.specs.Initialising.{signature_parameters}
use Rattle.elab_fits.specs.Standing.{IsExpressionType}
use Rattle.elab_fits.specs.Scalars.{is_scalar, IsOperand}
use Rattle.elab_fits.specs.Objects.{is_ready, is_closure, has_lambdas, HasSpecials}

-- Types

-- a class is a lambda's or has a name, and a type says the same of the class that it names; `lambda` tells which are lambdas'
abbrev mutual
  pub is_sorted : (lambda : ℕ → Bool) → Form → Bool
  is_sorted lambda (class n) = not (lambda n)
  is_sorted lambda (closure n) = lambda n
  is_sorted lambda (tx_ex t) = typ_sorted lambda t
  is_sorted lambda f = true

  pub typ_sorted : (lambda : ℕ → Bool) → Typ → Bool
  typ_sorted lambda (typ f c v) = is_sorted lambda f

-- objects of the type can be made: it has a size, its arrays have elements, and only what a lambda captured is a reference
abbrev pub is_whole : List Class → Typ → Bool
is_whole classes t = is_some (size_in classes t) && is_ready classes (is_closure (form_in t)) t

abbrev pub is_named_class : Form → Bool
is_named_class (class n) = true
is_named_class f = false

-- a type of objects, elements of arrays too: once the class in it is complete, objects of it can be made; a lambda's class is complete, and so is that of
-- the value in a `std::tx_exception`
pub record IsObjectTyp (c : Ctx) (lambda : ℕ → Bool) (t : Typ) : Type 0 where
  pub sorted : is_sorted lambda (form_in t) ≡ true
  pub whole : holds_complete c.classes (form_in t) ≡ true → is_whole c.classes t ≡ true
  pub complete : is_named_class (form_in (element_of t)) ≡ false → holds_complete c.classes (form_in t) ≡ true

-- a reference; there is none to `void`
abbrev pub refers : Form → Bool
refers (ref t) = not (is_void t)
refers f = false

-- the type of a parameter: a scalar, a reference to what an expression can be, or a class
pub record IsParameter (c : Ctx) (lambda : ℕ → Bool) (p : Typ) : Type 0 where
  pub formed : (is_scalar (form_in p) || refers (form_in p) || is_object_form (form_in p)) ≡ true
  pub referred : (t : Typ) → form_in p ≡ ref t → IsExpressionType t Lvalue
  pub object : is_object_form (form_in p) ≡ true → IsObjectTyp c lambda p

abbrev pub AreParameters : Ctx → (ℕ → Bool) → Typs → Type 0
AreParameters c lambda no_typs = Unit {0}
AreParameters c lambda (and_typ p ps) = IsParameter c lambda p × AreParameters c lambda ps

-- the type of what is initialised by values: such a one, or an array
pub record IsInitialised (c : Ctx) (lambda : ℕ → Bool) (t : Typ) : Type 0 where
  pub value : is_array t ≡ false → IsParameter c lambda t
  pub object : refers (form_in t) ≡ false → IsObjectTyp c lambda t

-- Functions

-- the function of the unit that is a constructor of a class
pub record IsConstructorOf (c : Ctx) (n k : ℕ) : Type 0 where
  pub func : Func
  pub at : slice_get c.funcs k ≡ Some func
  pub kind : func.kind ≡ Constructor
  pub class : func.class ≡ Some n

pub record IsCopyOf (c : Ctx) (n k : ℕ) : Type 0 where
  pub maker : IsConstructorOf c n k
  pub takes : takes_itself n maker.func.declared.signature ≡ true

pub record IsDefaultOf (c : Ctx) (n k : ℕ) : Type 0 where
  pub maker : IsConstructorOf c n k
  pub takes : signature_parameters maker.func.declared.signature ≡ no_typs

-- the type of what a lambda captured: its arrays have elements, and it is no array of lambdas' objects
pub record IsCapture (c : Ctx) (t : Typ) : Type 0 where
  pub ready : is_ready c.classes true t ≡ true
  pub single : has_lambdas t ≡ false

-- what the context says of its classes agrees with its functions, whose parameters have types of parameters, and the parts of lambdas' objects are captures
pub record HasMakers (c : Ctx) (lambda : ℕ → Bool) : Type 0 where
  pub specials : HasSpecials c
  pub copies : (n k : ℕ) → (traits_at c n).copy ≡ function k → IsCopyOf c n k
  pub defaults : (n k : ℕ) → (traits_at c n).default ≡ function k → IsDefaultOf c n k
  pub parameters : (k : ℕ) (f : Func) → slice_get c.funcs k ≡ Some f → AreParameters c lambda (signature_parameters f.declared.signature)
  pub captures : (n i : ℕ) (p : Part) → lambda n ≡ true → slice_get (parts_of c.classes n) i ≡ Some p → IsCapture c p.typ

-- Operands

-- what copies a `std::tx_exception` copies one of the same type
abbrev pub copies_itself : Tree → Bool
copies_itself (node CopyFrom (typ (tx_ex t) q v) cat at (more source ts)) = form_eq (tx_ex t) (form_in (typ_in source))
copies_itself e = true

-- an operand that may initialise an object: a prvalue of a class is one of which objects can be made
pub record IsSource (s : Setting) (c : Ctx) (lambda : ℕ → Bool) (o : Operand) : Type 0 where
  pub operand : IsOperand s o
  pub sorted : is_sorted lambda (form_in (typ_in o.tree)) ≡ true
  pub whole : is_class_prvalue (typ_in o.tree) (cat_of o.tree) ≡ true → is_whole c.classes (typ_in o.tree) ≡ true
  pub copied : copies_itself (builder o.tree) ≡ true

abbrev pub AreSources : Setting → Ctx → (ℕ → Bool) → List Operand → Type 0
AreSources s c lambda [] = Unit {0}
AreSources s c lambda (o ∷ os) = IsSource s c lambda o × AreSources s c lambda os
