-- What an expression means: it stands, or it names what a call makes out.
use Rattle.std.specs.Prelude.{◌≡◌, ℕ, Bool, true, Some, is_some, slice_get}
use Rattle.elab_rules.specs.cpp_types.Typ.{Typ, typ, void, tx_ex}
use Rattle.elab_rules.specs.cpp_types.Class.{completion_of}
use Rattle.elab_rules.specs.cpp_types.declared.classes.At.{At}
use Rattle.elab_rules.specs.cpp_types.declared.ranks.Cat.TheVariants.{Lvalue, Prvalue}
use Rattle.elab_rules.specs.cpp_tree.declared.kinds.TKind.TheVariants.{Function, Default, Builtin as BuiltinNode}
use Rattle.elab_rules.specs.cpp_tree.declared.kinds.Builtin.TheVariants.{Abort}
use Rattle.elab_rules.specs.cpp_tree.Trees.{Tree, node, none, one, typ_in, cat_of}
use Rattle.elab_rules.specs.cpp_tree.Notation.{plain}
use Rattle.elab_rules.specs.cpp_tree.Typing.{is_void, is_class_prvalue}
use Rattle.elab_rules.specs.cpp_tree.Rows.{Setting}
use Rattle.elab_rules.specs.elab_ctx.Ctx.{Ctx, Func}
use Rattle.elab_rules.specs.elab_ctx.Steps.{Operand}
use Rattle.elab_rules.specs.Values.{builder}
use Rattle.elab_fits.specs.Standing.{Stands}
use Rattle.elab_fits.specs.Scalars.{IsZero}
use Rattle.elab_fits_objects.specs.Contexts.{copies_itself}
use Rattle.elab_fits_forms.specs.Types.{is_sound, IsWhole}

-- an expression that stands, of a type that programs have: nothing of type `void` is an lvalue, and an object that is built is whole
pub record Proper (s : Setting) (c : Ctx) (e : Tree) : Type 0 where
  pub stands : Stands s e
  pub sound : is_sound c.classes (typ_in e) ≡ true
  pub nothing : is_void (typ_in e) ≡ true → cat_of e ≡ Prvalue
  pub whole : is_class_prvalue (typ_in e) (cat_of e) ≡ true → IsWhole c.classes (typ_in e)
  pub copied : is_class_prvalue (typ_in e) (cat_of e) ≡ true → copies_itself (builder e) ≡ true

-- an object that a member is named of
pub record IsObject (s : Setting) (c : Ctx) (e : Tree) : Type 0 where
  pub proper : Proper s c e
  pub category : cat_of e ≡ Lvalue

-- a member function of a complete class
pub record IsMethod (c : Ctx) (k : ℕ) : Type 0 where
  pub func : Func
  pub at : slice_get c.funcs k ≡ Some func
  pub class : ℕ
  pub member : func.class ≡ Some class
  pub complete : is_some (completion_of c.classes class) ≡ true

-- an expression stands, or is one of the forms that are looked up and not yet chosen: functions of a name at file scope, or member functions with their
-- object; `get` of a `std::tx_exception`; `std::abort`
pub data Means (s : Setting) (c : Ctx) : Tree → Type 0 where
  standing : {e : Tree} → Proper s c e → Means s c e
  free_functions : (k : ℕ) (at : At) → Means s c (node (Function k) (plain void) Lvalue at none)
  methods : (k : ℕ) (at : At) (object : Tree) → IsMethod c k → IsObject s c object → Means s c (node (Function k) (plain void) Lvalue at (one object))
  getter : (at : At) (t : Typ) (q v : Bool) (object : Tree) → IsObject s c object → typ_in object ≡ typ (tx_ex t) q v
      → Means s c (node Default (plain void) Lvalue at (one object))
  aborting : (at : At) → Means s c (node (BuiltinNode Abort) (plain void) Lvalue at none)

-- the same of operands, whose trees are 0 where they are said to be
pub record ProperOperand (s : Setting) (c : Ctx) (o : Operand) : Type 0 where
  pub proper : Proper s c o.tree
  pub zero : o.zero ≡ true → IsZero o.tree

pub record MeansOperand (s : Setting) (c : Ctx) (o : Operand) : Type 0 where
  pub means : Means s c o.tree
  pub zero : o.zero ≡ true → IsZero o.tree
