-- Types as trees: what a type shows, without the memory that holds it.
use Rattle.std.specs.Prelude.{Bool, List, [], ◌∷◌, ℕ}
use Rattle.tx_ints.specs.declared.kinds.IntKind.{IntKind}
use Rattle.cpp_types.specs.declared.types.Ty.{Ty}
use Rattle.cpp_types.specs.declared.types.FnTy.{FnTy, FnTy', Row_of-Ty, end_of-Ty, more_of-Ty}
use Rattle.cpp_types.specs.declared.types.Shape.{Shape, Void, Int, Enum, Null, Ptr', Ref', Array', Func', Class, Closure, TxEx'}

mutual
  -- a form with its `const` and its `volatile`
  pub data Typ : Type 0 where
    typ : Form → Bool → Bool → Typ

  pub data Form : Type 0 where
    void : Form
    int : IntKind → Form
    enum : List ℕ → Bool → Form
    null : Form
    ptr : Typ → Form
    ref : Typ → Form
    array : Typ → ℕ → Form
    func : Signature → Form
    class : ℕ → Form
    closure : ℕ → Form
    tx_ex : Typ → Form

  -- the parameters, the result, and whether it is `transaction_safe`
  pub data Signature : Type 0 where
    signature : Typs → Typ → Bool → Signature

  pub data Typs : Type 0 where
    none : Typs
    more : Typ → Typs → Typs

abbrev mutual
  pub shape_form : Shape → Form
  shape_form Void = void
  shape_form (Int k) = int k
  shape_form (Enum name scoped) = enum name.items scoped
  shape_form Null = null
  shape_form (Ptr' p s c v) = ptr (typ (shape_form s) c v)
  shape_form (Ref' p s c v) = ref (typ (shape_form s) c v)
  shape_form (Array' p s c v n) = array (typ (shape_form s) c v) n
  shape_form (Func' p f) = func (signature_of f)
  shape_form (Class n) = class n
  shape_form (Closure n) = closure n
  shape_form (TxEx' p s c v) = tx_ex (typ (shape_form s) c v)

  pub signature_of : FnTy → Signature
  signature_of (FnTy' n row s c v safe) = signature (row_typs row) (typ (shape_form s) c v) safe

  pub row_typs : {m : _} → Row_of-Ty m → Typs
  row_typs end_of-Ty = none
  row_typs (more_of-Ty s c v rest) = more (typ (shape_form s) c v) (row_typs rest)

-- the tree that a type shows
abbrev pub typ_of : Ty → Typ
typ_of t = typ (shape_form t.shape) t.is_const t.is_volatile

abbrev pub typs_of : List Ty → Typs
typs_of [] = none
typs_of (t ∷ ts) = more (typ_of t) (typs_of ts)
