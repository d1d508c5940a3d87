-- Class records as trees, and the lists of them that are in order.
use Rattle.std.specs.Prelude.{◌≡◌, ◌<◌, ◌&&◌, ℕ, Bool, true, IsTrue, nat_lt, List, map, length, slice_get, Option, Some, None, cond, is_some, option_and_then}
use Rattle.cpp_types.specs.Typ.{Typ, typ, Form, ptr, ref, array, func, class, closure, tx_ex, Signature, signature, Typs, none, more, typ_of, signature_of}
use Rattle.cpp_types.specs.declared.classes.At.{At}
use Rattle.cpp_types.specs.declared.classes.Safety.{Safety}
use Rattle.cpp_types.specs.declared.classes.ClassRec.{ClassRec}
use Rattle.cpp_types.specs.declared.classes.MemberRec.{MemberRec}
use Rattle.cpp_types.specs.declared.classes.FuncRec.{FuncRec}

pub record Member : Type 0 where
  pub name : List ℕ
  pub typ : Typ

pub record Function : Type 0 where
  pub name : List ℕ
  pub signature : Signature
  pub is_const : Bool
  pub is_virtual : Bool
  pub is_override : Bool
  pub is_final : Bool
  pub pure_virtual : Bool
  pub safety : Safety
  pub considered : Bool
  pub no_except : Bool
  pub at : At

pub record Class : Type 0 where
  pub name : List ℕ
  pub base : Option ℕ
  pub members : List Member
  pub functions : List Function
  pub is_final : Bool
  pub complete : Option ℕ

abbrev pub member_of : MemberRec → Member
member_of m = record { name = m.name.items; typ = typ_of m.ty }

abbrev pub function_of : FuncRec → Function
function_of f = record {
  name = f.name.items;
  signature = signature_of f.ty;
  is_const = f.is_const;
  is_virtual = f.is_virtual;
  is_override = f.is_override;
  is_final = f.is_final;
  pure_virtual = f.pure_virtual;
  safety = f.safety;
  considered = f.considered;
  no_except = f.no_except;
  at = f.at;
}

-- the tree that a class record shows
abbrev pub class_of : ClassRec → Class
class_of c = record {
  name = c.name.items;
  base = c.base;
  members = map member_of c.members.items;
  functions = map function_of c.functions.items;
  is_final =
      c.is_final;
  complete = c.complete;
}

abbrev pub classes_of : List ClassRec → List Class
classes_of cs = map class_of cs

-- the base of a complete class
abbrev pub base_of : List Class → ℕ → Option ℕ
base_of classes n = option_and_then (λ c. cond (is_some c.complete) c.base None) (slice_get classes n)

-- how many classes were completed before this one
abbrev pub completion_of : List Class → ℕ → Option ℕ
completion_of classes n = option_and_then (λ c. c.complete) (slice_get classes n)

-- the class that a value of the type holds: itself, or that of an array's elements or of an exception's value
abbrev mutual
  pub held : Typ → Option ℕ
  held (typ f c v) = held_form f

  pub held_form : Form → Option ℕ
  held_form (class n) = Some n
  held_form (closure n) = Some n
  held_form (array t k) = held t
  held_form (tx_ex t) = held t
  held_form f = None

-- each class number in the type is below the limit
abbrev mutual
  pub typ_below : ℕ → Typ → Bool
  typ_below n (typ f c v) = form_below n f

  pub form_below : ℕ → Form → Bool
  form_below n (ptr t) = typ_below n t
  form_below n (ref t) = typ_below n t
  form_below n (array t k) = typ_below n t
  form_below n (tx_ex t) = typ_below n t
  form_below n (func s) = signature_below n s
  form_below n (class k) = nat_lt k n
  form_below n (closure k) = nat_lt k n
  form_below n _ = true

  pub signature_below : ℕ → Signature → Bool
  signature_below n (signature ps r safe) = typs_below n ps && typ_below n r

  pub typs_below : ℕ → Typs → Bool
  typs_below n none = true
  typs_below n (more t ts) = typ_below n t && typs_below n ts

-- the class is complete, and was so before `limit` others were
pub record CompleteBelow (classes : List Class) (limit : ℕ) (n : ℕ) : Type 0 where
  pub number : ℕ
  pub complete : completion_of classes n ≡ Some number
  pub below : number < limit

-- each class number in the class is an index into a list of `limit` classes
pub record IndicesBelow (limit : ℕ) (c : Class) : Type 0 where
  pub base : (b : ℕ) → c.base ≡ Some b → b < limit
  pub members : (i : ℕ) (m : Member) → slice_get c.members i ≡ Some m → IsTrue (typ_below limit m.typ)
  pub functions : (i : ℕ) (f : Function) → slice_get c.functions i ≡ Some f → IsTrue (signature_below limit f.signature)

-- what a complete class holds by value is complete, and was so before it
pub record HoldsEarlier (classes : List Class) (limit : ℕ) (c : Class) : Type 0 where
  pub base : (b : ℕ) → c.base ≡ Some b → CompleteBelow classes limit b
  pub members : (i : ℕ) (m : Member) → slice_get c.members i ≡ Some m → (e : ℕ) → held m.typ ≡ Some e → CompleteBelow classes limit e

-- a list of classes in order
pub record InOrder (classes : List Class) : Type 0 where
  pub indices : (i : ℕ) (c : Class) → slice_get classes i ≡ Some c → IndicesBelow (length classes) c
  pub earlier : (i : ℕ) (c : Class) (n : ℕ) → slice_get classes i ≡ Some c → c.complete ≡ Some n → HoldsEarlier classes n c
