-- Types that expressions can have, through and through, and the trees that have them.
use Rattle.std.specs.Prelude.{◌≡◌, ℕ, zero, suc, nat_lt, Bool, true, false, not, ◌&&◌, ◌||◌, List, [], ◌∷◌, length, is_some, slice_get}
use Rattle.elab_rules.specs.cpp_types.Typ.{Typ, typ, Form, void, int, enum, null, ptr, ref, array, func, class, closure, tx_ex, Signature, signature, Typs}
use Rattle.elab_rules.specs.cpp_types.Typ.{none as no_typs, more as and_typ}
use Rattle.elab_rules.specs.cpp_types.Class.{Class, completion_of}
use Rattle.elab_rules.specs.cpp_types.declared.classes.At.{At}
use Rattle.elab_rules.specs.cpp_types.declared.ranks.Cat.{Cat}
use Rattle.elab_rules.specs.cpp_types.declared.ranks.Cat.TheVariants.{Lvalue, Prvalue}
use Rattle.elab_rules.specs.cpp_tree.declared.kinds.TKind.{TKind}
use Rattle.elab_rules.specs.cpp_tree.declared.kinds.TKind.TheVariants.{Retype, Default, Builtin}
use Rattle.elab_rules.specs.cpp_tree.declared.kinds.Builtin.TheVariants.{Abort}
use Rattle.elab_rules.specs.cpp_tree.Trees.{Tree, node, Trees, none, more, one, kind_of, typ_in, cat_of, kids_of}
use Rattle.elab_rules.specs.cpp_tree.Notation.{plain}
use Rattle.elab_rules.specs.cpp_tree.Typing.{passes, form_in, is_class_typ}
use Rattle.elab_rules.specs.elab_ctx.Steps.{Operand}
use Rattle.elab_rules.specs.Values.{is_exception_form}
use Rattle.elab_rules.specs.Types.{is_nothing}
use Rattle.elab_rules.specs.Names.{functions}

-- Classes

-- the class of a lambda has no name
abbrev pub is_lambda : List Class → ℕ → Bool
is_lambda classes n = passes (λ (k : Class). is_nothing k.name) (slice_get classes n)

-- a class that is declared, and is no lambda's
abbrev pub is_class : List Class → ℕ → Bool
is_class classes n = nat_lt n (length classes) && not (is_lambda classes n)

-- Uses of types

-- of an object that has a name or is an element; of what a pointer points to or a reference refers to; of a variable or what a lambda captures; of a parameter,
-- and of a result, as a function's type says; of a value; of what a name of a type or a declarator denotes; and of what is declared, with `auto` too
pub data Use : Type 0 where
  object : Use
  target : Use
  variable : Use
  parameter : Use
  result : Use
  value : Use
  denoted : Use
  declared : Use

abbrev pub may_be_void : Use → Bool
may_be_void object = false
may_be_void target = false
may_be_void variable = false
may_be_void parameter = false
may_be_void result = true
may_be_void value = true
may_be_void denoted = true
may_be_void declared = true

abbrev pub may_refer : Use → Bool
may_refer object = false
may_refer target = false
may_refer variable = true
may_refer parameter = true
may_refer result = true
may_refer value = false
may_refer denoted = true
may_refer declared = true

abbrev pub is_positive : ℕ → Bool
is_positive zero = false
is_positive (suc n) = true

-- an array has elements, but for one whose initialiser is yet to give its bound
abbrev pub may_be_array : Use → (bound : ℕ) → Bool
may_be_array object n = is_positive n
may_be_array target n = is_positive n
may_be_array variable n = is_positive n
may_be_array parameter n = false
may_be_array result n = false
may_be_array value n = false
may_be_array denoted n = true
may_be_array declared n = true

abbrev pub may_be_function : Use → Bool
may_be_function object = false
may_be_function target = true
may_be_function variable = false
may_be_function parameter = false
may_be_function result = false
may_be_function value = false
may_be_function denoted = true
may_be_function declared = true

-- the type of a lambda's object can't be written, so no element and no member with a name has it
abbrev pub may_be_lambda : Use → Bool
may_be_lambda object = false
may_be_lambda target = true
may_be_lambda variable = true
may_be_lambda parameter = true
may_be_lambda result = true
may_be_lambda value = true
may_be_lambda denoted = false
may_be_lambda declared = true

-- Types

abbrev pub is_unqualified : Typ → Bool
is_unqualified (typ f c v) = not (c || v)

-- what a `std::tx_exception` holds: an integer, an enum, or an object of a class that is complete and no lambda's
abbrev pub is_held : List Class → Form → Bool
is_held classes (int k) = true
is_held classes (enum e s) = true
is_held classes (class n) = is_some (completion_of classes n) && not (is_lambda classes n)
is_held classes f = false

-- A type that is used so, where there are these classes (C++14 8.3): no pointer leads to a reference or to `void`, no reference to either of them, elements are
-- objects, and arrays, references and functions have no qualifiers. An array has elements. A type says which classes are lambdas'. `own` says that there are some
-- qualifiers.
abbrev mutual
  pub is_sound : List Class → Use → Typ → Bool
  is_sound classes way (typ f c v) = is_sound_form classes way (c || v) f

  pub is_sound_form : List Class → Use → (own : Bool) → Form → Bool
  is_sound_form classes way own void = may_be_void way
  is_sound_form classes way own (int k) = true
  is_sound_form classes way own (enum e s) = true
  is_sound_form classes way own null = true
  is_sound_form classes way own (ptr t) = is_sound classes target t
  is_sound_form classes way own (ref t) = may_refer way && (not own && is_sound classes target t)
  is_sound_form classes way own (array t n) = may_be_array way n && (not own && is_sound classes object t)
  is_sound_form classes way own (func s) = may_be_function way && (not own && is_sound_signature classes s)
  is_sound_form classes way own (class n) = is_class classes n
  is_sound_form classes way own (closure n) = may_be_lambda way && is_lambda classes n
  is_sound_form classes way own (tx_ex (typ f c v)) = not (c || v) && is_held classes f

  pub is_sound_signature : List Class → Signature → Bool
  is_sound_signature classes (signature ps r safe) = are_sound classes ps && is_sound classes result r

  -- no parameter has qualifiers of its own (8.3.5 p5)
  pub are_sound : List Class → Typs → Bool
  are_sound classes no_typs = true
  are_sound classes (and_typ t ts) = is_unqualified t && (is_sound classes parameter t && are_sound classes ts)

-- Expressions

-- the type and the category of an expression: what an lvalue refers to is an object or a function, and a value that is no object has no qualifiers (C++14 3.10)
abbrev pub is_head : List Class → Typ → Cat → Bool
is_head classes t Lvalue = is_sound classes target t
is_head classes t Prvalue = is_sound classes value t && (is_class_typ t || is_unqualified t)

abbrev pub is_get : TKind → Bool
is_get Default = true
is_get kind = false

-- what an exception that is written with its value is written with, is none
abbrev pub is_value_written : TKind → Cat → Typ → Trees → Bool
is_value_written Retype Prvalue (typ (tx_ex t) c v) (more e ts) = not (is_exception_form (form_in (typ_in e)))
is_value_written kind cat t kids = true

pub record IsExpression (classes : List Class) (e : Tree) : Type 0 where
  pub head : is_head classes (typ_in e) (cat_of e) ≡ true
  pub chosen : is_get (kind_of e) ≡ false
  pub written : is_value_written (kind_of e) (cat_of e) (typ_in e) (kids_of e) ≡ true

-- what is looked up and not yet chosen: functions of a name, those of an object, `get` of an exception, and `std::abort`
pub data IsLookedUp (classes : List Class) : Tree → Type 0 where
  free : (k : ℕ) (at : At) → IsLookedUp classes (functions k at none)
  method : (k : ℕ) (at : At) (e : Tree) → IsExpression classes e → IsLookedUp classes (functions k at (one e))
  get : (at : At) (e : Tree) → IsExpression classes e → IsLookedUp classes (node Default (plain void) Lvalue at (one e))
  abort : (at : At) → IsLookedUp classes (node (Builtin Abort) (plain void) Lvalue at none)

pub data IsSoundTree (classes : List Class) (e : Tree) : Type 0 where
  expression : IsExpression classes e → IsSoundTree classes e
  looked_up : IsLookedUp classes e → IsSoundTree classes e

abbrev pub AreExpressions : List Class → List Operand → Type 0
AreExpressions classes [] = Unit {0}
AreExpressions classes (o ∷ os) = IsExpression classes o.tree × AreExpressions classes os
