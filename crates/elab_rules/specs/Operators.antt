-- Operators on scalars (C++14 5.2.1, 5.2.6, 5.3.1, 5.6 to 5.18), from operands that are typed.
use Rattle.std.specs.Prelude.{ℕ, nat_le, Bool, true, false, not, ◌&&◌, ◌||◌, List, ◌^◌, ◌-◌, Option, Some, None, is_some, Result, Ok, Err}
use Rattle.std.specs.Prelude.{if◌then◌else◌, codes}
use Rattle.std.specs.Str.{bytes_eq}
use Rattle.elab_ctx.specs.tx_ints.declared.kinds.IntKind.{IntKind}
use Rattle.elab_ctx.specs.tx_ints.declared.kinds.IntKind.TheVariants.{Bool as BoolKind, Int, ULong, Long}
use Rattle.elab_ctx.specs.tx_ints.declared.kinds.BinOp.{BinOp}
use Rattle.elab_ctx.specs.tx_ints.declared.kinds.BinOp.TheVariants.{Add, Sub, Mul, Div, Rem, Shl, Shr, And, Xor, Or, Lt, Gt, Le, Ge, Eq, Ne}
use Rattle.elab_ctx.specs.tx_ints.Integers.{usual_of, promote_of, is_shift}
use Rattle.elab_ctx.specs.cpp_types.Typ.{Typ, typ, Form, void, int, enum, null, ptr, func, class, tx_ex}
use Rattle.elab_ctx.specs.cpp_types.Equal.{kind_eq, typ_eq, form_eq}
use Rattle.elab_ctx.specs.cpp_types.Class.{completion_of}
use Rattle.elab_ctx.specs.cpp_types.Conversion.{is_lvalue, const_of}
use Rattle.elab_ctx.specs.cpp_types.declared.classes.At.{At}
use Rattle.elab_ctx.specs.cpp_types.declared.ranks.Cat.{Cat}
use Rattle.elab_ctx.specs.cpp_types.declared.ranks.Cat.TheVariants.{Lvalue, Prvalue}
use Rattle.elab_ctx.specs.cpp_types.Class.{held}
use Rattle.elab_ctx.specs.cpp_tree.declared.kinds.TKind.{TKind}
use Rattle.elab_ctx.specs.cpp_tree.declared.kinds.TKind.TheVariants.{Local, Global, Load, Retype, Binary, Conditional, Comma, Assign, Update}
use Rattle.elab_ctx.specs.cpp_tree.declared.kinds.TKind.TheVariants.{CopyAssign, Throw, Rethrow}
use Rattle.elab_ctx.specs.cpp_tree.declared.faults.ElabFault.{ElabFault}
use Rattle.elab_ctx.specs.cpp_tree.declared.faults.ElabFault.TheVariants.{Ill, Limit}
use Rattle.elab_ctx.specs.cpp_tree.declared.faults.LimitKind.TheVariants.{Size}
use Rattle.elab_ctx.specs.cpp_layout.declared.extents.TheConstants.{GREATEST_SIZE}
use Rattle.elab_ctx.specs.cpp_tree.declared.faults.IllRule.TheVariants.{NoConversion, BadOperand, NotLvalue, ConstTarget, Incomplete, NoCopy}
use Rattle.elab_ctx.specs.cpp_tree.Trees.{Tree, node, none, more, one, two, three, typ_in, cat_of, kind_of}
use Rattle.elab_ctx.specs.cpp_tree.Notation.{plain}
use Rattle.elab_ctx.specs.cpp_tree.Typing.{form_in, is_volatile_typ, unqualified, is_class_typ, is_void, kind_in, is_class_prvalue}
use Rattle.elab_ctx.specs.Ctx.{Ctx, Work}
use Rattle.elab_ctx.specs.Steps.{and_then, expect, check, Operand, Made}
use Rattle.elab_rules.specs.Values.{place_of, same_at, bool_type, size_type, retyped, number, operated, valued, in_kind}
use Rattle.elab_rules.specs.Objects.{size_of, copies, traits_at}
use Rattle.elab_rules.specs.Constants.{word_in}
use Rattle.elab_rules.specs.Initialising.{initial, object_of, class_number, as_source, is_same_or_base, with_tree, exception_copied, seen_as, is_written_exception}
use Rattle.elab_rules.specs.Initialising.{exact_object}

-- Names of operators

abbrev pub binary_operator : List ℕ → Option BinOp
binary_operator name =
    if bytes_eq name (codes "+") then Some Add else (if bytes_eq name (codes "-") then Some Sub else (if bytes_eq name (codes "*") then Some Mul else (
    if bytes_eq name (codes "/") then Some Div else (if bytes_eq name (codes "%") then Some Rem else (if bytes_eq name (codes "<<") then Some Shl else (
    if bytes_eq name (codes ">>") then Some Shr else (if bytes_eq name (codes "&") then Some And else (if bytes_eq name (codes "^") then Some Xor else (
    if bytes_eq name (codes "|") then Some Or else (if bytes_eq name (codes "<") then Some Lt else (if bytes_eq name (codes ">") then Some Gt else (
    if bytes_eq name (codes "<=") then Some Le else (if bytes_eq name (codes ">=") then Some Ge else (if bytes_eq name (codes "==") then Some Eq else (
    if bytes_eq name (codes "!=") then Some Ne else None)))))))))))))))

-- the operator of a compound assignment
abbrev pub compound_operator : List ℕ → Option BinOp
compound_operator name =
    if bytes_eq name (codes "+=") then Some Add else (if bytes_eq name (codes "-=") then Some Sub else (if bytes_eq name (codes "*=") then Some Mul else (
    if bytes_eq name (codes "/=") then Some Div else (if bytes_eq name (codes "%=") then Some Rem else (if bytes_eq name (codes "<<=") then Some Shl else (
    if bytes_eq name (codes ">>=") then Some Shr else (if bytes_eq name (codes "&=") then Some And else (if bytes_eq name (codes "^=") then Some Xor else (
    if bytes_eq name (codes "|=") then Some Or else None)))))))))

abbrev pub is_comparison : BinOp → Bool
is_comparison Lt = true
is_comparison Gt = true
is_comparison Le = true
is_comparison Ge = true
is_comparison Eq = true
is_comparison Ne = true
is_comparison op = false

-- Operands

-- the value of an operand
abbrev pub value : Operand → Tree
value o = valued o.at o.tree

abbrev pub value_form : Operand → Form
value_form o = form_in (typ_in (value o))

-- the kind in which an integer or an unscoped enum takes part in arithmetic, before its promotion
abbrev pub arithmetic : Form → Option IntKind
arithmetic (int k) = Some k
arithmetic (enum n false) = Some Int
arithmetic f = None

abbrev pub as_kind : IntKind → Operand → Tree
as_kind k o = in_kind o.at k (value o)

-- what a pointer points to
abbrev pub pointed : Form → Option Typ
pointed (ptr t) = Some t
pointed f = None

abbrev pub is_null : Operand → Bool
is_null o = o.zero || form_eq (value_form o) null

-- Arithmetic (C++14 5.6 to 5.8, 5.11 to 5.13)

abbrev pub in_usual : BinOp → At → IntKind → Operand → Operand → Tree
in_usual op at k a b = operated op k (plain (int k)) at (as_kind k a) (as_kind k b)

abbrev pub shifted : BinOp → At → IntKind → IntKind → Operand → Operand → Tree
shifted op at j k a b = operated op (promote_of j) (plain (int (promote_of j))) at (as_kind (promote_of j) a) (as_kind (promote_of k) b)

abbrev pub arithmetic_of : BinOp → At → Option IntKind → Option IntKind → Operand → Operand → Result Tree ElabFault
arithmetic_of op at (Some j) (Some k) a b = if is_shift op then Ok (shifted op at j k a b) else Ok (in_usual op at (usual_of j k) a b)
arithmetic_of op at _ _ a b = Err (Ill at BadOperand)

-- Pointers and numbers (C++14 5.7)

abbrev pub is_object_type : Form → Bool
is_object_type void = false
is_object_type (func s) = false
is_object_type f = true

abbrev pub is_complete : Ctx → Option ℕ → Bool
is_complete c (Some n) = is_some (completion_of c.classes n)
is_complete c None = true

-- objects of the type have a size
abbrev pub is_sized : Ctx → Typ → Bool
is_sized c t = is_object_type (form_in t) && is_complete c (held t)

abbrev pub is_function : Typ → Bool
is_function (typ (func s) c v) = true
is_function t = false

-- a number of objects of the type as a number of bytes
abbrev pub scaled : Ctx → At → Typ → Operand → Tree
scaled c at t n = operated Mul ULong size_type at (as_kind ULong n) (number ULong (size_of c.classes t) at)

-- a pointer moved by a number of objects, and what the sum is, in the order of the text
abbrev pub moved : Ctx → BinOp → At → Typ → Operand → Operand → Tree
moved c op at t p n = operated op ULong (unqualified (typ_in (value p))) at (value p) (scaled c at t n)

abbrev pub moved_back : Ctx → At → Typ → Operand → Operand → Tree
moved_back c at t n p = operated Add ULong (unqualified (typ_in (value p))) at (scaled c at t n) (value p)

-- no object is larger than the greatest one (profile); a type that was written before its class was complete may be
abbrev pub within_greatest : Ctx → At → Typ → Result Bool ElabFault
within_greatest c at t = if nat_le (size_of c.classes t) GREATEST_SIZE then Ok true else Err (Limit at Size)

-- the same of a type that may have no size yet
abbrev pub within_if_sized : Ctx → At → Typ → Result Bool ElabFault
within_if_sized c at t = if not (is_sized c t) || nat_le (size_of c.classes t) GREATEST_SIZE then Ok true else Err (Limit at Size)

abbrev pub measurable : Ctx → At → Typ → Result Bool ElabFault
measurable c at t = and_then (check at Incomplete (is_sized c t)) (λ y. within_greatest c at t)

-- the pointed type is one to whose objects a pointer can be moved
abbrev pub movable : Ctx → At → At → Typ → Result Bool ElabFault
movable c at p t = and_then (check at BadOperand (not (is_function t))) (λ y. measurable c p t)

abbrev pub difference : Ctx → At → Typ → Operand → Operand → Tree
difference c at t p q = operated Div Long (plain (int Long)) at (in_kind at Long (operated Sub ULong size_type at (value p) (value q)))
    (number Long (size_of c.classes t) at)

abbrev pub sum_of : Ctx → BinOp → At → Option Typ → Option Typ → Operand → Operand → Result Tree ElabFault
sum_of c Sub at (Some t) (Some u) p q = and_then (check at BadOperand (typ_eq t u)) (λ y. and_then (movable c at p.at t) (λ z. Ok (difference c at t p q)))
sum_of c op at (Some t) None p n = and_then (check at BadOperand (is_some (arithmetic (value_form n))))
    (λ y. and_then (movable c at p.at t) (λ z. Ok (moved c op at t p n)))
sum_of c Add at None (Some t) n p = and_then (check at BadOperand (is_some (arithmetic (value_form n))))
    (λ y. and_then (movable c at p.at t) (λ z. Ok (moved_back c at t n p)))
sum_of c op at _ _ a b = arithmetic_of op at (arithmetic (value_form a)) (arithmetic (value_form b)) a b

-- Comparisons (C++14 5.9, 5.10)

abbrev pub compared : BinOp → IntKind → At → Tree → Tree → Tree
compared op k at a b = operated op k bool_type at a b

abbrev pub as_pointer : Typ → Operand → Tree
as_pointer t o = retyped o.at (plain (ptr t)) Prvalue (value o)

abbrev pub comparison_by : BinOp → At → Option IntKind → Option IntKind → Operand → Operand → Result Tree ElabFault
comparison_by op at (Some j) (Some k) a b = Ok (compared op (usual_of j k) at (as_kind (usual_of j k) a) (as_kind (usual_of j k) b))
comparison_by op at _ _ a b = Err (Ill at BadOperand)

abbrev pub comparison_in : BinOp → At → Form → Form → Operand → Operand → Result Tree ElabFault
comparison_in op at (ptr t) (ptr u) a b = and_then (check at BadOperand (typ_eq t u)) (λ y. Ok (compared op ULong at (value a) (value b)))
comparison_in op at (ptr t) f a b = and_then (check at BadOperand (is_null b)) (λ y. Ok (compared op ULong at (value a) (as_pointer t b)))
comparison_in op at f (ptr t) a b = and_then (check at BadOperand (is_null a)) (λ y. Ok (compared op ULong at (as_pointer t a) (value b)))
comparison_in op at (enum m true) f a b = and_then (check at BadOperand (form_eq (enum m true) f)) (λ y. Ok (compared op Int at (value a) (value b)))
comparison_in op at f g a b = comparison_by op at (arithmetic f) (arithmetic g) a b

abbrev pub is_sum : BinOp → Bool
is_sum Add = true
is_sum Sub = true
is_sum op = false

-- an operator of two operands but `&&` and `||`
abbrev pub binary : Ctx → BinOp → At → Operand → Operand → Result Tree ElabFault
binary c op at a b = if is_comparison op then comparison_in op at (value_form a) (value_form b) a b else
    (if is_sum op then sum_of c op at (pointed (value_form a)) (pointed (value_form b)) a b
    else arithmetic_of op at (arithmetic (value_form a)) (arithmetic (value_form b)) a b)

-- Truth (C++14 4.12, 5.3.1, 5.14, 5.15)

abbrev pub truth : Ctx → Work → Operand → Result Tree ElabFault
truth c w o = and_then (initial c w bool_type o) (λ (m : Made). Ok m.tree)

abbrev pub false_at : At → Tree
false_at at = number BoolKind 0 at

abbrev pub true_at : At → Tree
true_at at = number BoolKind 1 at

abbrev pub logical : Ctx → Work → Bool → At → Operand → Operand → Result Tree ElabFault
logical c w is_and at a b = and_then (truth c w a) (λ x. and_then (truth c w b)
    (λ y. Ok (node Conditional bool_type Prvalue at (if is_and then three x y (false_at at) else three x (true_at at) y))))

abbrev pub negation : Ctx → Work → At → Operand → Result Tree ElabFault
negation c w at a = and_then (truth c w a) (λ x. Ok (compared Eq Int at (in_kind a.at Int x) (number Int 0 at)))

-- Unary operators (C++14 5.3.1)

abbrev pub with_arithmetic : At → Operand → (IntKind → Tree) → Result Tree ElabFault
with_arithmetic at a f = and_then (expect at BadOperand (arithmetic (value_form a))) (λ k. Ok (f (promote_of k)))

-- all bits of a kind
abbrev pub ones : IntKind → ℕ
ones k = word_in k (2 ^ 64 - 1)

abbrev pub minus : At → Operand → Result Tree ElabFault
minus at a = with_arithmetic at a (λ k. operated Sub k (plain (int k)) at (number k 0 at) (as_kind k a))

abbrev pub complement : At → Operand → Result Tree ElabFault
complement at a = with_arithmetic at a (λ k. operated Xor k (plain (int k)) at (as_kind k a) (number k (ones k) at))

abbrev pub plus : At → Operand → Result Tree ElabFault
plus at a = with_arithmetic at a (λ k. as_kind k a)

abbrev pub indirection : At → Operand → Result Tree ElabFault
indirection at a = and_then (expect at BadOperand (pointed (value_form a))) (λ t. Ok (retyped at t Lvalue (value a)))

abbrev pub address_of : At → Operand → Result Tree ElabFault
address_of at a = and_then (check at NotLvalue (is_lvalue (cat_of a.tree))) (λ y. Ok (retyped at (plain (ptr (typ_in a.tree))) Prvalue a.tree))

abbrev pub subscript : Ctx → At → Operand → Operand → Result Tree ElabFault
subscript c at a b = and_then (sum_of c Add at (pointed (value_form a)) (pointed (value_form b)) a b)
    (λ (s : Tree). and_then (expect at BadOperand (pointed (form_in (typ_in s)))) (λ t. Ok (retyped at t Lvalue s)))

-- Assignments (C++14 5.17), increments and decrements (5.2.6, 5.3.2)

-- an lvalue that is not `const`
abbrev pub target : At → Operand → Result Bool ElabFault
target at a = and_then (check at NotLvalue (is_lvalue (cat_of a.tree))) (λ y. check at ConstTarget (not (const_of (typ_in a.tree))))

abbrev pub assigned : At → Option IntKind → Operand → Tree → Result Tree ElabFault
assigned at (Some k) a v = Ok (node (Assign k (is_volatile_typ (typ_in a.tree))) (typ_in a.tree) Lvalue at (two a.tree v))
assigned at None a v = Err (Ill at BadOperand)

-- the class object `a` is assigned the object `b`, as one of type `t` and, of a class, as one of class `n`
abbrev pub copy_assigned : Ctx → Work → At → Operand → Operand → (Tree → Tree) → Typ → Result Made ElabFault
copy_assigned c w at a b as_object t = and_then (check b.at NoCopy (not (is_volatile_typ (typ_in b.tree)))) (λ z.
    Ok (with_tree (λ (s : Tree). node CopyAssign (typ_in a.tree) Lvalue at (three a.tree (as_object s) (copies c.classes at t))) (object_of c w b.at b.tree)))

abbrev pub same_object : Tree → Tree
same_object s = s

-- an object in a `std::tx_exception` is assigned where one by itself would be
abbrev pub is_assignable_form : Ctx → Form → Bool
is_assignable_form c (class n) = (traits_at c n).is_assignable
is_assignable_form c f = true

abbrev pub class_assigned_in : Ctx → Work → At → Operand → Operand → Form → Result Made ElabFault
class_assigned_in c w at a b (class n) = and_then (check b.at NoConversion (is_same_or_base c.classes (class_number (typ_in b.tree)) (Some n))) (λ x.
    and_then (check at NoCopy ((traits_at c n).is_assignable && not (is_volatile_typ (typ_in a.tree))))
    (λ y. copy_assigned c w at a b (as_source b.at n) (typ_in a.tree)))
class_assigned_in c w at a b (tx_ex t) = and_then (check b.at NoConversion (form_eq (form_in (typ_in b.tree)) (tx_ex t)))
    (λ x. and_then (check at NoCopy (is_assignable_form c (form_in t) && not (is_volatile_typ (typ_in a.tree))))
    (λ y. copy_assigned c w at a b same_object t))
class_assigned_in c w at a b f = Err (Ill at NoCopy)

abbrev pub class_assigned : Ctx → Work → At → Operand → Operand → Result Made ElabFault
class_assigned c w at a b = class_assigned_in c w at a b (form_in (typ_in a.tree))

abbrev pub assignment : Ctx → Work → At → Operand → Operand → Result Made ElabFault
assignment c w at a b = and_then (target at a) (λ y. if is_class_typ (typ_in a.tree) then class_assigned c w at a b else
    and_then (check at BadOperand (is_some (kind_in (form_in (typ_in a.tree)))))
    (λ x. and_then (initial c w (unqualified (typ_in a.tree)) b)
    (λ (m : Made). and_then (assigned at (kind_in (form_in (typ_in a.tree))) a m.tree) (λ (t : Tree). Ok (record { tree = t; work = m.work })))))

abbrev pub updated : BinOp → IntKind → IntKind → Bool → At → Operand → Tree → Tree
updated op stored operation old at a r = node (Update op stored operation (is_volatile_typ (typ_in a.tree)) old)
    (if old then unqualified (typ_in a.tree) else typ_in a.tree) (if old then Prvalue else Lvalue) at (two a.tree r)

abbrev pub compound_numbers : BinOp → At → IntKind → IntKind → Operand → Operand → Tree
compound_numbers op at j k a b = if is_shift op then updated op j (promote_of j) false at a (as_kind (promote_of k) b) else updated op j
    (usual_of j k) false at a (as_kind (usual_of j k) b)

abbrev pub compound_in : Ctx → BinOp → At → Form → Operand → Operand → Result Tree ElabFault
compound_in c op at (ptr t) a b = and_then (check at BadOperand (is_sum op && is_some (arithmetic (value_form b))))
    (λ y. and_then (movable c at a.at t) (λ z. Ok (updated op ULong ULong false at a (scaled c at t b))))
compound_in c op at (int j) a b = and_then (expect at BadOperand (arithmetic (value_form b))) (λ k. Ok (compound_numbers op at j k a b))
compound_in c op at f a b = Err (Ill at BadOperand)

abbrev pub compound : Ctx → BinOp → At → Operand → Operand → Result Tree ElabFault
compound c op at a b = and_then (target at a) (λ y. compound_in c op at (form_in (typ_in a.tree)) a b)

abbrev pub step_in : Ctx → BinOp → Bool → At → Form → Operand → Result Tree ElabFault
step_in c op old at (ptr t) a = and_then (movable c at a.at t) (λ z. Ok (updated op ULong ULong old at a (number ULong (size_of c.classes t) at)))
step_in c op old at (int j) a = and_then (check at BadOperand (not (kind_eq j BoolKind)))
    (λ y. Ok (updated op j (promote_of j) old at a (number (promote_of j) 1 at)))
step_in c op old at f a = Err (Ill at BadOperand)

-- `++` and `--`
abbrev pub step : Ctx → BinOp → Bool → At → Operand → Result Tree ElabFault
step c op old at a = and_then (target at a) (λ y. step_in c op old at (form_in (typ_in a.tree)) a)

-- Values that are dropped (C++14 clause 5 p11, profile)

-- written as a name, a member access, a subscript or an indirection
abbrev pub is_read_when_dropped : Tree → Bool
is_read_when_dropped (node (Local k) t Lvalue at kids) = true
is_read_when_dropped (node (Global g) t Lvalue at kids) = true
is_read_when_dropped (node (Load k v) t Lvalue at kids) = true
is_read_when_dropped (node (Binary op k) t Lvalue at kids) = true
is_read_when_dropped (node Retype t Lvalue at (more (node k u Prvalue p kids) none)) = true
is_read_when_dropped e = false

abbrev pub is_volatile_scalar : Typ → Bool
is_volatile_scalar t = is_volatile_typ t && is_some (kind_in (form_in t))

-- a `throw` makes no object, though it has the type of what is thrown
abbrev pub is_throw : TKind → Bool
is_throw Throw = true
is_throw Rethrow = true
is_throw kind = false

-- what says that an expression has no value: a `throw` is one of type `void` (C++14 15.1 p1)
abbrev pub without_value : At → Tree → Tree
without_value at e = retyped at (plain void) Prvalue e

-- the `throw` that an expression is, by itself; every other expression as it is
abbrev pub bare_throw : Tree → Tree
bare_throw (node Retype t cat at (more e none)) = if is_throw (kind_of e) && same_at at (place_of e) then e else node Retype t cat at (one e)
bare_throw e = e

abbrev pub throws : Tree → Bool
throws e = is_throw (kind_of (bare_throw e))

abbrev pub dropped : Ctx → Work → Operand → Made
dropped c w o = if throws o.tree then record { tree = bare_throw o.tree; work = w } else (
    if is_volatile_scalar (typ_in o.tree) && is_read_when_dropped o.tree then record { tree = value o; work = w } else object_of c w o.at o.tree)

-- an operand beside another: such an exception is a copy of the object that is built
abbrev pub settled : Ctx → Work → Operand → Made
settled c w o = if is_written_exception o.tree then with_tree (exception_copied c (typ_in o.tree) o.at) (object_of c w o.at o.tree) else
    record { tree = o.tree; work = w }

-- `a, b` (C++14 5.18)
abbrev pub comma_of : At → Tree → Tree → Tree
comma_of at x y = node Comma (typ_in y) (cat_of y) at (two x y)

abbrev pub comma : Ctx → Work → At → Operand → Operand → Made
comma c w at a b = with_tree (comma_of at (dropped c w a).tree) (settled c (dropped c w a).work b)

-- `? :` (C++14 5.16)

abbrev pub conditional_node : At → Typ → Cat → Tree → Tree → Tree → Tree
conditional_node at t cat test x y = node Conditional t cat at (three test x y)

abbrev pub same_lvalues : Operand → Operand → Bool
same_lvalues a b = is_lvalue (cat_of a.tree) && is_lvalue (cat_of b.tree) && typ_eq (typ_in a.tree) (typ_in b.tree)

-- the class of objects that both are
abbrev pub both_of_class : Operand → Operand → Bool
both_of_class a b = is_class_typ (typ_in a.tree) && form_eq (form_in (typ_in a.tree)) (form_in (typ_in b.tree))

abbrev pub two_numbers : At → Tree → Option IntKind → Option IntKind → Operand → Operand → Result Tree ElabFault
two_numbers at test (Some j) (Some k) a b = Ok (conditional_node at (plain (int (usual_of j k))) Prvalue test (as_kind (usual_of j k) a)
    (as_kind (usual_of j k) b))
two_numbers at test _ _ a b = Err (Ill at BadOperand)

abbrev pub two_values : At → Tree → Form → Form → Operand → Operand → Result Tree ElabFault
two_values at test (ptr t) (ptr u) a b = and_then (check at BadOperand (typ_eq t u))
    (λ y. Ok (conditional_node at (plain (ptr t)) Prvalue test (value a) (value b)))
two_values at test (ptr t) f a b = and_then (check at BadOperand (is_null b))
    (λ y. Ok (conditional_node at (plain (ptr t)) Prvalue test (value a) (as_pointer t b)))
two_values at test f (ptr t) a b = and_then (check at BadOperand (is_null a))
    (λ y. Ok (conditional_node at (plain (ptr t)) Prvalue test (as_pointer t a) (value b)))
two_values at test f g a b = if form_eq f g && is_some (kind_in f) then Ok
    (conditional_node at (plain f) Prvalue test (value a) (value b)) else two_numbers at test (arithmetic f) (arithmetic g) a b

abbrev pub joined_type : Typ → Typ → Typ
joined_type (typ f c v) (typ g d w) = typ f (c || d) (v || w)

-- two objects of a class: each is converted to the type that has the qualifiers of both (C++14 5.16 p3)
abbrev pub joined_class : Operand → Operand → Typ
joined_class a b = joined_type (typ_in a.tree) (typ_in b.tree)

-- two lvalues of one class, of which one has all qualifiers of the other
abbrev pub is_shared : Operand → Operand → Bool
is_shared a b = is_lvalue (cat_of a.tree) && is_lvalue (cat_of b.tree) && both_of_class a b
    && (typ_eq (joined_class a b) (typ_in a.tree) || typ_eq (joined_class a b) (typ_in b.tree))

abbrev pub shared : At → Tree → Operand → Operand → Tree
shared at test a b = conditional_node at (joined_class a b) Lvalue test (seen_as a.at (joined_class a b) a.tree) (seen_as b.at (joined_class a b) b.tree)

abbrev pub two_objects : Ctx → Work → At → Tree → Operand → Operand → Result Made ElabFault
two_objects c w at test a b = and_then (exact_object c w (joined_class a b) a.at a)
    (λ (x : Made). and_then (exact_object c x.work (joined_class a b) b.at b)
    (λ (y : Made). Ok (record { tree = conditional_node at (joined_class a b) Prvalue test x.tree y.tree; work = y.work })))

-- an operand beside one that throws: an lvalue, a class prvalue or nothing stays as it is
abbrev pub kept_value : Operand → Tree
kept_value o = if is_lvalue (cat_of o.tree) then o.tree else value o

abbrev pub same_work : Work → Result Tree ElabFault → Result Made ElabFault
same_work w r = and_then r (λ (t : Tree). Ok (record { tree = t; work = w }))

-- an operand beside one that throws
abbrev pub conditional_like : At → Tree → Tree → Tree → Tree → Tree
conditional_like at like test x y = conditional_node at (typ_in like) (cat_of like) test x y

abbrev pub branches : Ctx → Work → At → Tree → Operand → Operand → Result Made ElabFault
branches c w at test a b =
    if throws a.tree && throws b.tree then Ok
    (record { tree = conditional_node at (plain void) Prvalue test (bare_throw a.tree) (bare_throw b.tree); work = w }) else (
    if throws b.tree then Ok (with_tree (λ (x : Tree). conditional_like at x test x (bare_throw b.tree)) (settled c w a)) else (
    if throws a.tree then Ok (with_tree (λ (y : Tree). conditional_like at y test (bare_throw a.tree) y) (settled c w b)) else (
    if same_lvalues a b || (is_void (typ_in a.tree) && is_void (typ_in b.tree)) then Ok
    (record { tree = conditional_node at (typ_in a.tree) (cat_of a.tree) test a.tree b.tree; work = w }) else (
    if is_shared a b then Ok (record { tree = shared at test a b; work = w }) else (
    if both_of_class a b then two_objects c w at test a b else same_work w (two_values at test (value_form a) (value_form b) a b))))))

abbrev pub conditional : Ctx → Work → At → Operand → Operand → Operand → Result Made ElabFault
conditional c w at test a b = and_then (truth c w test) (λ (t : Tree). branches c w at t a b)
