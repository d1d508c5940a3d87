-- Values, conversions as nodes, and temporaries (C++14 clause 4, 8.5.3, 12.2).
use Rattle.std.specs.Prelude.{ℕ, ◌==◌, Bool, true, false, ◌&&◌, Option, Some, None, if◌then◌else◌}
use Rattle.elab_ctx.specs.tx_ints.declared.kinds.IntKind.{IntKind}
use Rattle.elab_ctx.specs.tx_ints.declared.kinds.IntKind.TheVariants.{Bool as BoolKind, Int, ULong}
use Rattle.elab_ctx.specs.tx_ints.declared.kinds.BinOp.{BinOp}
use Rattle.elab_ctx.specs.tx_ints.declared.kinds.BinOp.TheVariants.{Add}
use Rattle.elab_ctx.specs.cpp_types.Typ.{Typ, typ, Form, int, array, func, tx_ex}
use Rattle.elab_ctx.specs.cpp_types.Equal.{kind_eq, typ_eq}
use Rattle.elab_ctx.specs.cpp_types.Conversion.{decayed}
use Rattle.elab_ctx.specs.cpp_types.declared.classes.At.{At}
use Rattle.elab_ctx.specs.cpp_types.declared.ranks.Cat.{Cat}
use Rattle.elab_ctx.specs.cpp_types.declared.ranks.Cat.TheVariants.{Lvalue, Prvalue}
use Rattle.elab_ctx.specs.cpp_types.declared.ranks.Step.{Step}
use Rattle.elab_ctx.specs.cpp_types.declared.ranks.Step.TheVariants.{NullPointer}
use Rattle.elab_ctx.specs.cpp_tree.declared.kinds.TKind.{TKind}
use Rattle.elab_ctx.specs.cpp_tree.declared.kinds.TKind.TheVariants.{Literal, Load, Convert, Retype, Binary, Materialize, Store}
use Rattle.elab_ctx.specs.cpp_tree.Trees.{Tree, node, Trees, none, more, one, two, kind_of, typ_in, cat_of, kids_of}
use Rattle.elab_ctx.specs.cpp_tree.Notation.{plain}
use Rattle.elab_ctx.specs.cpp_tree.Typing.{form_in, is_volatile_typ, unqualified, kind_in}
use Rattle.elab_ctx.specs.Ctx.{Work, with_item, next_place}
use Rattle.elab_ctx.specs.Steps.{Made}

-- Nodes

abbrev pub place_of : Tree → At
place_of (node kind t cat at kids) = at

abbrev pub same_at : At → At → Bool
same_at a b = a.source == b.source && a.offset == b.offset

abbrev pub is_exception_form : Form → Bool
is_exception_form (tx_ex t) = true
is_exception_form f = false

abbrev pub bool_type : Typ
bool_type = plain (int BoolKind)

abbrev pub int_type : Typ
int_type = plain (int Int)

abbrev pub size_type : Typ
size_type = plain (int ULong)

-- the same word with another type or category
abbrev pub retyped : At → Typ → Cat → Tree → Tree
retyped at t cat e = node Retype t cat at (one e)

abbrev pub number : IntKind → ℕ → At → Tree
number k w at = node (Literal w) (plain (int k)) Prvalue at none

abbrev pub operated : BinOp → IntKind → Typ → At → Tree → Tree → Tree
operated op k t at a b = node (Binary op k) t Prvalue at (two a b)

-- what lies at an offset from the address that an expression gives
abbrev pub part_at : ℕ → Typ → At → Tree → Tree
part_at offset t at object = node (Binary Add ULong) t Lvalue at (two object (number ULong offset at))

-- Values (C++14 4.1 to 4.3)

abbrev pub loaded : At → Option IntKind → Tree → Tree
loaded at (Some k) e = node (Load k (is_volatile_typ (typ_in e))) (unqualified (typ_in e)) Prvalue at (one e)
loaded at None e = e

abbrev pub value_in : At → Form → Cat → Tree → Tree
value_in at (func s) cat e = retyped at (plain (decayed (typ_in e))) Prvalue e
value_in at (array t n) cat e = retyped at (plain (decayed (typ_in e))) Prvalue e
value_in at f Lvalue e = loaded at (kind_in f) e
value_in at f Prvalue e = e

-- the value of an expression: a pointer for a function or an array, what a scalar holds, and an object of a class as it is
abbrev pub valued : At → Tree → Tree
valued at e = value_in at (form_in (typ_in e)) (cat_of e) e

-- Conversions of values (C++14 4.5 to 4.12)

abbrev pub retyped_if : At → Bool → Typ → Tree → Tree
retyped_if at true t v = v
retyped_if at false t v = retyped at t Prvalue v

abbrev pub between : At → Option IntKind → Option IntKind → Typ → Tree → Tree
between at (Some j) (Some k) t v = if kind_eq j k then retyped_if at (typ_eq t (typ_in v)) t v else node (Convert k) t Prvalue at (one v)
between at _ _ t v = v

-- a scalar's value as one of another type
abbrev pub converted : At → Typ → Tree → Tree
converted at t v = between at (kind_in (form_in (typ_in v))) (kind_in (form_in t)) (unqualified t) v

-- a number in a kind of numbers
abbrev pub in_kind : At → IntKind → Tree → Tree
in_kind at k v = converted at (plain (int k)) v

abbrev pub stepped : At → Step → Typ → Tree → Tree
stepped at NullPointer t v = retyped at (unqualified t) Prvalue v
stepped at step t v = converted at t v

-- Objects and temporaries

-- what builds the object that a class prvalue stands for; one of a `std::tx_exception` is built as the value in it
abbrev pub only_tree : Trees → Tree → Tree
only_tree (more e none) t = e
only_tree ts t = t

abbrev pub built_by : TKind → Typ → Cat → Trees → Tree → Tree
built_by Retype (typ (tx_ex u) c v) Prvalue kids t = only_tree kids t
built_by kind u cat kids t = t

abbrev pub builder : Tree → Tree
builder t = built_by (kind_of t) (typ_in t) (cat_of t) (kids_of t) t

abbrev pub temporary : Work → Typ → At → Tree → Trees → Made
temporary w t at init destroys = record { tree = node (Materialize (next_place w) false) t Lvalue at (more init destroys); work = with_item w t }

abbrev pub stored_as : At → Option IntKind → Typ → Tree → Tree
stored_as at (Some k) t v = node (Store k (is_volatile_typ t)) t Prvalue at (one v)
stored_as at None t v = v

-- a scalar, or the slot of a reference, that has a value
abbrev pub stored : At → Typ → Tree → Tree
stored at t v = stored_as at (kind_in (form_in t)) t v
