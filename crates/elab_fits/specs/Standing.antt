-- What elaboration makes, in the setting of the body that it comes into: how the laws speak of it.
use Rattle.std.specs.Prelude.{◌≡◌, ℕ, Bool, true, false, List, Some, slice_get, Result, Ok, Err}
use Rattle.elab_rules.specs.cpp_types.Typ.{Typ, typ, Form, void, ref, array, func}
use Rattle.elab_rules.specs.cpp_types.Class.{InOrder}
use Rattle.elab_rules.specs.cpp_types.declared.ranks.Cat.{Cat}
use Rattle.elab_rules.specs.cpp_types.declared.ranks.Cat.TheVariants.{Lvalue, Prvalue}
use Rattle.elab_rules.specs.cpp_tree.declared.faults.ElabFault.{ElabFault}
use Rattle.elab_rules.specs.cpp_tree.declared.roles.Position.{Position}
use Rattle.elab_rules.specs.cpp_tree.declared.roles.Role.{Role}
use Rattle.elab_rules.specs.cpp_tree.declared.roles.Role.TheVariants.{Value, Initialiser}
use Rattle.elab_rules.specs.cpp_tree.Trees.{Tree, typ_in, cat_of}
use Rattle.elab_rules.specs.cpp_tree.Typing.{head_of, builds, is_class_prvalue, is_class_typ, is_scalar_value}
use Rattle.elab_rules.specs.cpp_tree.Units.{Func as UnitFunc, Global}
use Rattle.elab_rules.specs.cpp_tree.Rows.{Setting}
use Rattle.elab_rules.specs.cpp_tree.WellFormed.{fits}
use Rattle.elab_rules.specs.elab_ctx.Ctx.{Ctx, Work, Func}
use Rattle.elab_rules.specs.Values.{builder}

-- Settings

-- a function of the context is this one of the unit
pub record IsFunc (f : Func) (g : UnitFunc) : Type 0 where
  pub declared : g.declared ≡ f.declared
  pub kind : g.kind ≡ f.kind
  pub class : g.class ≡ f.class

pub record HasFunc (s : Setting) (i : ℕ) (f : Func) : Type 0 where
  pub func : UnitFunc
  pub at : slice_get s.funcs i ≡ Some func
  pub is : IsFunc f func

-- the setting of a body that is made in this context
pub record IsSetting (s : Setting) (c : Ctx) : Type 0 where
  pub classes : s.classes ≡ c.classes
  pub ordered : InOrder c.classes
  pub slots : s.slots ≡ c.slots
  pub funcs : (i : ℕ) (f : Func) → slice_get c.funcs i ≡ Some f → HasFunc s i f

pub record HasGlobal (s : Setting) (i : ℕ) (t : Typ) : Type 0 where
  pub global : Global
  pub at : slice_get s.globals i ≡ Some global
  pub is : global.typ ≡ t

-- what was made beside the trees stands there: the items of the frame and the globals
pub record Reaches (s : Setting) (w : Work) : Type 0 where
  pub frame : (i : ℕ) (t : Typ) → slice_get w.frame i ≡ Some t → slice_get s.function.frame i ≡ Some t
  pub globals : (i : ℕ) (g : Global) → slice_get w.globals i ≡ Some g → HasGlobal s i g.typ

-- Trees

-- it fits in a role, inside of a full-expression
abbrev pub FitsAs : Setting → Role → Tree → Type 0
FitsAs s role e = (p : Position) → p.full ≡ true → fits s p role e ≡ true

-- the type and the category of an expression (C++14 3.10, clause 5 p5, p6): no reference, arrays and functions have addresses, and the value of a
-- scalar has no qualifiers
abbrev pub IsExpressionType : Typ → Cat → Type 0
IsExpressionType (typ (ref t) c v) cat = ⊥
IsExpressionType (typ (array t n) c v) cat = cat ≡ Lvalue
IsExpressionType (typ (func s) c v) cat = cat ≡ Lvalue
IsExpressionType (typ void c v) cat = typ void c v ≡ typ void false false
IsExpressionType t Lvalue = Unit {0}
IsExpressionType t Prvalue = is_class_typ t ≡ false → is_scalar_value t ≡ true

-- an expression as elaboration makes it: its value, or of a class prvalue what builds the object
pub record Stands (s : Setting) (e : Tree) : Type 0 where
  pub typed : IsExpressionType (typ_in e) (cat_of e)
  pub value : is_class_prvalue (typ_in e) (cat_of e) ≡ false → FitsAs s Value e
  pub object : is_class_prvalue (typ_in e) (cat_of e) ≡ true → FitsAs s Initialiser (builder e)
  pub built : is_class_prvalue (typ_in e) (cat_of e) ≡ true → builds (typ_in e) (head_of (builder e)) ≡ true

-- what builds an object of a type
pub record BuildsOne (s : Setting) (t : Typ) (e : Tree) : Type 0 where
  pub fits : FitsAs s Initialiser e
  pub builds : builds t (head_of e) ≡ true

-- what holds of an answer that is no fault
abbrev pub On : {A : Type 0} → (A → Type 0) → Result A ElabFault → Type 0
On P (Ok a) = P a
On P (Err e) = Unit {0}
