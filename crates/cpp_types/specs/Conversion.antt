-- Implicit conversions of an argument, their ranks, and which of two is better (C++14 clause 4 and 13.3.3).
use Rattle.std.specs.Prelude.{Bool, true, false, not, ◌&&◌, ◌||◌, ◌==◌, ℕ, zero, suc, List, [], ◌∷◌, Option, Some, None, cond, nat_lt, option_map, unwrap_or}
use Rattle.tx_ints.specs.declared.kinds.IntKind.{IntKind}
use Rattle.tx_ints.specs.declared.kinds.IntKind.TheVariants.{Bool as BoolKind, Int}
use Rattle.tx_ints.specs.Integers.{promote_of}
use Rattle.cpp_types.specs.Typ.{Typ, typ, Form, void, int, enum, null, ptr, ref, array, func, class, closure, tx_ex, Signature, signature}
use Rattle.cpp_types.specs.Equal.{flag_eq, kind_eq, typ_eq, form_eq, typs_eq}
use Rattle.cpp_types.specs.Class.{Class, base_of, completion_of}
use Rattle.cpp_types.specs.declared.ranks.Cat.{Cat}
use Rattle.cpp_types.specs.declared.ranks.Cat.TheVariants.{Lvalue, Prvalue}
use Rattle.cpp_types.specs.declared.ranks.Rank.{Rank}
use Rattle.cpp_types.specs.declared.ranks.Rank.TheVariants.{Exact, Adjusted, Promotion, Conversion as Converted}
use Rattle.cpp_types.specs.declared.ranks.Step.{Step}
use Rattle.cpp_types.specs.declared.ranks.Step.TheVariants.{Identity, Qualify, DropSafe, Promote, Integral, NullPointer, PointerToBool, ToBase}
use Rattle.cpp_types.specs.declared.ranks.Binding.{Binding}
use Rattle.cpp_types.specs.declared.ranks.Binding.TheVariants.{Value, Direct, Temporary}
use Rattle.cpp_types.specs.declared.ranks.Conversion.{Conversion}
use Rattle.cpp_types.specs.declared.qualifiers.Widening.{Widening}
use Rattle.cpp_types.specs.declared.qualifiers.Widening.TheVariants.{Alike, Wider}

-- Qualifiers

-- whether the type is `const`; an array is where its elements are (C++14 3.9.3)
abbrev mutual
  pub const_of : Typ → Bool
  const_of (typ f c v) = c || const_elements f

  pub const_elements : Form → Bool
  const_elements (array e n) = const_of e
  const_elements f = false

abbrev mutual
  pub volatile_of : Typ → Bool
  volatile_of (typ f c v) = v || volatile_elements f

  pub volatile_elements : Form → Bool
  volatile_elements (array e n) = volatile_of e
  volatile_elements f = false

-- the type without its own qualifiers, an array's without those of its elements
abbrev mutual
  pub bare : Typ → Form
  bare (typ f c v) = bare_form f

  pub bare_form : Form → Form
  bare_form (array e n) = array (typ (bare e) false false) n
  bare_form f = f

-- the second has each of two qualifiers that the first has
abbrev pub keeps : Bool → Bool → Bool → Bool → Bool
keeps c v d w = (not c || d) && (not v || w)

-- what the qualifiers `d` and `w` add to `c` and `v`, where they keep these
abbrev pub flags_added : Bool → Bool → Bool → Bool → Option Widening
flags_added c v d w = cond (keeps c v d w) (Some (cond (flag_eq c d && flag_eq v w) Alike Wider)) None

abbrev pub both_added : Option Widening → Option Widening → Option Widening
both_added (Some Alike) x = x
both_added (Some Wider) (Some x) = Some Wider
both_added (Some Wider) None = None
both_added None x = None

-- what is added below one more pointer, which has to be `const` above each difference
abbrev pub deeper : Bool → Option Widening → Option Widening
deeper c (Some Alike) = Some Alike
deeper c (Some Wider) = cond c (Some Wider) None
deeper c None = None

-- what the second type adds to the first, both taken as wholes
abbrev pub bare_widening : Typ → Typ → Option Widening
bare_widening s t = cond (form_eq (bare s) (bare t)) (flags_added (const_of s) (volatile_of s) (const_of t) (volatile_of t)) None

-- what the second type adds to the first below a pointer, where it is the first with qualifiers added (C++14 4.4)
abbrev pub widening_of : Typ → Typ → Option Widening
widening_of (typ (ptr s) c v) (typ (ptr t) d w) = both_added (flags_added c v d w) (deeper d (widening_of s t))
widening_of s t = bare_widening s t

-- Bases

abbrev pub first_and : Option ℕ → (ℕ → List ℕ) → List ℕ
first_and None rest = []
first_and (Some b) rest = b ∷ rest b

-- the bases of a class, the nearest first, up to the number `most` of them
abbrev pub chain : ℕ → List Class → ℕ → List ℕ
chain zero classes n = []
chain (suc most) classes n = first_and (base_of classes n) (chain most classes)

-- the bases of a class, of which there are no more than classes that were completed before it
abbrev pub bases : List Class → ℕ → List ℕ
bases classes n = chain (unwrap_or (completion_of classes n) 0) classes n

-- the index of `b` in a list, counted from 1
abbrev pub steps_to : ℕ → List ℕ → Option ℕ
steps_to b [] = None
steps_to b (x ∷ xs) = cond (x == b) (Some 1) (option_map suc (steps_to b xs))

-- how far above the class its base `b` is
abbrev pub base_steps : List Class → ℕ → ℕ → Option ℕ
base_steps classes n b = steps_to b (bases classes n)

abbrev pub to_base : List Class → ℕ → ℕ → Option Step
to_base classes n b = option_map ToBase (base_steps classes n b)

-- Conversions of a value

-- the form of an expression's value: a pointer for an array or a function (C++14 4.2, 4.3)
abbrev pub decayed : Typ → Form
decayed (typ (array (typ f c v) n) d w) = ptr (typ f (c || d) (v || w))
decayed (typ (func s) c v) = ptr (typ (func s) false false)
decayed (typ f c v) = f

-- the second is the first without `transaction_safe`
abbrev pub drops_safe : Signature → Signature → Bool
drops_safe (signature ps r s) (signature qs q t) = s && not t && typ_eq r q && typs_eq ps qs

-- a pointer to a class as one to its base, and one to a safe function as one to a function
abbrev pub pointed_step : List Class → Typ → Typ → Option Step
pointed_step classes (typ (class m) c v) (typ (class n) d w) = cond (keeps c v d w) (to_base classes m n) None
pointed_step classes (typ (func s) c v) (typ (func t) d w) = cond (drops_safe s t) (Some DropSafe) None
pointed_step classes s t = None

abbrev pub step_if : Option Widening → Option Step → Option Step
step_if (Some Alike) other = Some Identity
step_if (Some Wider) other = Some Qualify
step_if None other = other

-- from a pointer to `s`
abbrev pub pointer_step : List Class → Typ → Form → Option Step
pointer_step classes s (ptr t) = step_if (widening_of s t) (pointed_step classes s t)
pointer_step classes s (int k) = cond (kind_eq k BoolKind) (Some PointerToBool) None
pointer_step classes s g = None

-- the second kind is the one that the first is promoted to (C++14 4.5)
abbrev pub promotes : IntKind → IntKind → Bool
promotes j k = kind_eq (promote_of j) k

-- from a value to one of another form, an enum's through `int`; `literal` says that it is the literal 0
abbrev pub other_step : List Class → Bool → Form → Form → Option Step
other_step classes literal (int j) (int k) = Some (cond (promotes j k) Promote Integral)
other_step classes literal (int j) (ptr t) = cond literal (Some NullPointer) None
other_step classes literal (enum m s) (int k) = cond s None (Some (cond (kind_eq Int k) Promote Integral))
other_step classes literal null (ptr t) = Some NullPointer
other_step classes literal (class m) (class n) = to_base classes m n
other_step classes literal f g = None

abbrev pub value_step : List Class → Bool → Form → Form → Option Step
value_step classes literal f g = cond (form_eq f g) (Some Identity) (other_step classes literal f g)

abbrev pub step_of : List Class → Bool → Form → Form → Option Step
step_of classes literal (ptr s) g = pointer_step classes s g
step_of classes literal f g = value_step classes literal f g

-- Bindings of references

abbrev pub bound : Binding → Option Step → Option Conversion
bound b s = option_map (λ x. record { step = x; binding = b }) s

abbrev pub is_object_form : Form → Bool
is_object_form (class n) = true
is_object_form (closure n) = true
is_object_form (tx_ex t) = true
is_object_form f = false

-- whether the expression stands for an object of its own type: an lvalue, or a prvalue of a class
abbrev pub is_object : Cat → Typ → Bool
is_object Lvalue t = true
is_object Prvalue (typ f c v) = is_object_form f

abbrev pub is_lvalue : Cat → Bool
is_lvalue Lvalue = true
is_lvalue Prvalue = false

-- `const` and not `volatile`: what a reference to a prvalue or a temporary refers to
abbrev pub only_const : Typ → Bool
only_const t = const_of t && not (volatile_of t)

abbrev pub form_of : Typ → Form
form_of (typ f c v) = f

abbrev pub up_to : List Class → Form → Form → Option Step
up_to classes (class m) (class n) = to_base classes m n
up_to classes f g = None

-- the same type or a base of it, qualifiers aside (C++14 8.5.3)
abbrev pub related_step : List Class → Typ → Typ → Option Step
related_step classes s t = cond (form_eq (bare s) (bare t)) (Some Identity) (up_to classes (form_of s) (form_of t))

abbrev pub temporary : List Class → Bool → Typ → Typ → Option Conversion
temporary classes literal s t = cond (only_const t) (bound Temporary (step_of classes literal (decayed s) (form_of t))) None

abbrev pub direct : Cat → Typ → Typ → Step → Option Conversion
direct cat s t step = cond (keeps (const_of s) (volatile_of s) (const_of t) (volatile_of t) && (is_lvalue cat || only_const t))
    (Some (record { step = step; binding = Direct })) None

abbrev pub object_binding : List Class → Cat → Bool → Typ → Typ → Option Step → Option Conversion
object_binding classes cat literal s t (Some step) = direct cat s t step
object_binding classes cat literal s t None = temporary classes literal s t

-- a reference to `t` bound to an expression of type `s` (C++14 8.5.3)
abbrev pub reference_conversion : List Class → Cat → Bool → Typ → Typ → Option Conversion
reference_conversion classes cat literal s t = cond (is_object cat s) (object_binding classes cat literal s t (related_step classes s t))
    (temporary classes literal s t)

-- no expression has a reference type, and one of type `void` has no value
abbrev pub has_value : Typ → Bool
has_value (typ void c v) = false
has_value (typ (ref t) c v) = false
has_value t = true

abbrev pub conversion_to : List Class → Cat → Bool → Typ → Typ → Option Conversion
conversion_to classes cat literal s (typ (ref t) c v) = reference_conversion classes cat literal s t
conversion_to classes cat literal s (typ f c v) = bound Value (step_of classes literal (decayed s) f)

-- the implicit conversion of an expression of type `s` to `t`, and None where there is none
abbrev pub conversion_of : List Class → Typ → Cat → Bool → Typ → Option Conversion
conversion_of classes s cat literal t = cond (has_value s) (conversion_to classes cat literal s t) None

-- Ranks

abbrev pub step_rank : Step → Rank
step_rank Identity = Exact
step_rank Qualify = Adjusted
step_rank DropSafe = Adjusted
step_rank Promote = Promotion
step_rank Integral = Converted
step_rank NullPointer = Converted
step_rank PointerToBool = Converted
step_rank (ToBase n) = Converted

abbrev pub rank_of : Conversion → Rank
rank_of c = step_rank c.step

abbrev pub rank_ordinal : Rank → ℕ
rank_ordinal Exact = 0
rank_ordinal Adjusted = 1
rank_ordinal Promotion = 2
rank_ordinal Converted = 3

-- Which conversion is better (C++14 13.3.3.2)

-- of two conversions of the last rank, one that is no pointer to `bool`, and the nearer base
abbrev pub better_step : Step → Step → Bool
better_step PointerToBool y = false
better_step x PointerToBool = true
better_step (ToBase m) (ToBase n) = nat_lt m n
better_step x y = false

abbrev pub is_null_step : Step → Bool
is_null_step NullPointer = true
is_null_step x = false

abbrev pub is_wider : Option Widening → Bool
is_wider (Some Wider) = true
is_wider (Some Alike) = false
is_wider None = false

-- the second of two references refers to the type of the first with qualifiers added
abbrev pub wider_reference : Typ → Typ → Bool
wider_reference (typ (ref s) c v) (typ (ref t) d w) =
    form_eq (bare s) (bare t) && is_wider (flags_added (const_of s) (volatile_of s) (const_of t) (volatile_of t))
wider_reference s t = false

abbrev pub referred : Typ → Typ
referred (typ (ref t) c v) = t
referred (typ f c v) = typ f c v

-- the second of two pointers points to the type of the first with qualifiers added
abbrev pub wider_pointer : Typ → Typ → Bool
wider_pointer (typ (ptr s) c v) (typ (ptr t) d w) = is_wider (widening_of s t)
wider_pointer s t = false

-- a conversion to `s` adds fewer qualifiers than one to `t`; those of a null constant are not compared
abbrev pub less_added : Step → Typ → Step → Typ → Bool
less_added a s b t = wider_reference s t || (not (is_null_step a) && not (is_null_step b) && wider_pointer (referred s) (referred t))

-- whether the conversion `a` to `s` is better than the conversion `b` of the same expression to `t`
abbrev pub better_conversion : Conversion → Typ → Conversion → Typ → Bool
better_conversion a s b t = cond (rank_ordinal (rank_of a) == rank_ordinal (rank_of b)) (better_step a.step b.step || less_added a.step s b.step t)
    (nat_lt (rank_ordinal (rank_of a)) (rank_ordinal (rank_of b)))
