-- Where the parts of an object lie: what the numbers in the nodes that build and destroy one have to be.
use Rattle.std.specs.Prelude.{ℕ, zero, suc, ◌+◌, ◌*◌, ◌-◌, ◌/◌, ◌==◌, nat_le, nat_lt, Bool, true, false, ◌&&◌, ◌||◌, List, [], ◌∷◌, ◌++◌, length, slice_get}
use Rattle.std.specs.Prelude.{Option, Some, None, is_some, option_map, option_and_then, unwrap_or, cond}
use Rattle.std.specs.List.{list_any}
use Rattle.tx_ints.specs.declared.kinds.IntKind.{IntKind}
use Rattle.cpp_layout.specs.cpp_types.Typ.{Typ, typ, Form, array, class, closure, tx_ex}
use Rattle.cpp_layout.specs.cpp_types.Class.{Class, Member, completion_of, held_form}
use Rattle.cpp_layout.specs.cpp_types.Order.{each_passes}
use Rattle.cpp_layout.specs.cpp_types.Conversion.{is_object_form, bases}
use Rattle.cpp_layout.specs.cpp_types.Equal.{kind_eq, typ_eq}
use Rattle.cpp_layout.specs.Layout.{extent_of, next_multiple, has_class_pointer}
use Rattle.cpp_layout.specs.Measured.{member_offset}
use Rattle.cpp_layout.specs.declared.extents.TheConstants.{GREATEST_SIZE}
use Rattle.tx_events.specs.declared.TheConstants.{EXCEPTION_SIZE}
use Rattle.cpp_tree.specs.declared.kinds.TKind.{TKind}
use Rattle.cpp_tree.specs.declared.kinds.TKind.TheVariants.{Piece, Field}
use Rattle.cpp_tree.specs.Typing.{Head, passes, form_in, qualified, is_class, kind_in, builds}

-- Sizes

-- the class that a value of the type holds, if it holds one, is complete
abbrev pub holds_complete : List Class → Form → Bool
holds_complete classes f = each_passes (λ (n : ℕ). is_some (completion_of classes n)) (held_form f)

abbrev pub within_limit : ℕ → Option ℕ
within_limit n = cond (nat_le n GREATEST_SIZE) (Some n) None

-- the size of the type's objects, where it has one of at most `GREATEST_SIZE` bytes
abbrev pub size_in : List Class → Typ → Option ℕ
size_in classes t = cond (holds_complete classes (form_in t)) (within_limit (extent_of classes t).size) None

abbrev pub has_size : List Class → Typ → ℕ → Bool
has_size classes t n = passes (λ (size : ℕ). size == n) (size_in classes t)

-- a class whose objects have a size
abbrev pub sized_class : List Class → ℕ → Option Class
sized_class classes n = cond (is_some (size_in classes (typ (class n) false false))) (slice_get classes n) None

-- Parts of a class that has a size: its base at offset 0, then its members, each by its index. (A member's index has 32 bits.)

pub record Part : Type 0 where
  pub offset : ℕ
  pub typ : Typ

abbrev pub member_part : List Class → ℕ → Class → ℕ → Option Part
member_part classes n c i = cond (nat_lt i 4294967296)
    (option_map (λ (m : Member). record { offset = member_offset classes n c i m; typ = m.typ }) (slice_get c.members i)) None

abbrev pub part_behind : List Class → ℕ → Class → Option ℕ → ℕ → Option Part
part_behind classes n c None i = member_part classes n c i
part_behind classes n c (Some b) zero = Some (record { offset = 0; typ = typ (class b) false false })
part_behind classes n c (Some b) (suc i) = member_part classes n c i

abbrev pub part_in : List Class → ℕ → ℕ → Class → Option Part
part_in classes n i c = part_behind classes n c c.base i

abbrev pub part_of : List Class → ℕ → ℕ → Option Part
part_of classes n i = option_and_then (part_in classes n i) (sized_class classes n)

abbrev pub parts_in : Class → ℕ
parts_in c = length c.members + cond (is_some c.base) 1 0

abbrev pub count_of_parts : List Class → ℕ → ℕ
count_of_parts classes n = unwrap_or (option_map parts_in (sized_class classes n)) 0

-- Class pointers

-- where the class pointer that a class adds stands: behind its base, at the next multiple of 8
abbrev pub pointer_behind : List Class → Option ℕ → Option ℕ
pointer_behind classes None = Some 0
pointer_behind classes (Some b) = option_map (λ (size : ℕ). next_multiple size 8) (size_in classes (typ (class b) false false))

-- the class adds its class pointer there
abbrev pub adds_pointer_at : List Class → ℕ → ℕ → Bool
adds_pointer_at classes at n = has_class_pointer classes n
    && passes (λ (c : Class). passes (λ (offset : ℕ). offset == at) (pointer_behind classes c.base)) (slice_get classes n)

-- objects of the class have their class pointer there: that of the one class of its chain of bases, all at offset 0, that adds one
abbrev pub has_pointer_at : List Class → ℕ → ℕ → Bool
has_pointer_at classes at n = is_some (sized_class classes n) && list_any (adds_pointer_at classes at) (n ∷ bases classes n)

-- Pieces: one for each part of a class

abbrev pub is_at : ℕ → TKind → Bool
is_at at (Piece offset) = offset == at
is_at at kind = false

abbrev pub is_piece_at : ℕ → Typ → Head → Bool
is_piece_at at t h = is_at at h.kind && typ_eq t h.typ

-- a piece of a part in an object with these qualifiers
abbrev pub is_piece_of : Bool → Bool → Head → Part → Bool
is_piece_of const volatile h p = is_piece_at p.offset (qualified const volatile p.typ) h

-- the pieces from a part on
abbrev pub are_part_pieces : List Class → Bool → Bool → ℕ → ℕ → List Head → Bool
are_part_pieces classes const volatile n i [] = i == count_of_parts classes n
are_part_pieces classes const volatile n i (h ∷ hs) = passes (is_piece_of const volatile h) (part_of classes n i)
    && are_part_pieces classes const volatile n (suc i) hs

abbrev pub are_class_pieces : List Class → Bool → Bool → ℕ → List Head → Bool
are_class_pieces classes const volatile n hs = is_some (sized_class classes n) && are_part_pieces classes const volatile n 0 hs

-- Elements: a piece for each, or one for all of the rest

abbrev pub is_last : List Head → Bool
is_last [] = true
is_last (h ∷ hs) = false

abbrev pub are_element_pieces : Typ → (size many : ℕ) → ℕ → List Head → Bool
are_element_pieces e size many i [] = i == many
are_element_pieces e size many i (h ∷ hs) = nat_lt i many && ((is_last hs && is_piece_at (i * size) (typ (array e (many - i)) false false) h)
    || (is_piece_at (i * size) e h && are_element_pieces e size many (suc i) hs))

-- the pieces of an object of this type
abbrev pub are_pieces : List Class → Typ → List Head → Bool
are_pieces classes (typ (class n) c v) hs = are_class_pieces classes c v n hs
are_pieces classes (typ (closure n) c v) hs = are_class_pieces classes c v n hs
are_pieces classes (typ (array e many) c v) hs = passes (λ (size : ℕ). are_element_pieces e size many 0 hs) (size_in classes e)
are_pieces classes t hs = false

-- so many elements that are built alike, counted through the bounds of arrays of arrays; `before` is the product of the bounds further out
abbrev pub are_elements : List Class → (count stride before : ℕ) → Typ → Head → Bool
are_elements classes count stride before (typ (array e many) c v) h = nat_le (before * many) count && (before * many == count && builds e h
    && has_size classes e stride || are_elements classes count stride (before * many) e h)
are_elements classes count stride before t h = false

-- Destructions

-- all elements of an array of this class, or of arrays of it
abbrev pub are_objects : List Class → (class count stride before : ℕ) → Typ → Bool
are_objects classes n count stride before (typ (array e many) c v) = nat_le (before * many) count && (before * many == count && is_class n (form_in e)
    && has_size classes e stride || are_objects classes n count stride (before * many) e)
are_objects classes n count stride before t = false

-- all that a destruction destroys: so many objects of a class
pub record Objects : Type 0 where
  pub class : ℕ
  pub count : ℕ
  pub stride : ℕ

-- they are the object itself, or all elements of an array
abbrev pub are_whole : List Class → Objects → ℕ → Typ → Bool
are_whole classes o offset t = offset == 0 && (is_class o.class (form_in t) && o.count == 1 && o.stride == 0 || nat_lt 0 o.count
    && are_objects classes o.class o.count o.stride 1 t)

abbrev pub closure_in : Typ → Option ℕ
closure_in (typ (closure n) c v) = Some n
closure_in t = None

-- they are one capture at an offset in a part of a lambda's object, or in a lambda's object that is that part; `within` says so of a lambda's class
abbrev pub are_captured : List Class → (within : ℕ → ℕ → Bool) → Objects → ℕ → Part → Bool
are_captured classes within o offset p = nat_le p.offset offset && (are_whole classes o (offset - p.offset) p.typ
    || passes (λ (n : ℕ). within n (offset - p.offset)) (closure_in p.typ))

-- one of so many parts from one on
abbrev pub any_captured : List Class → (within : ℕ → ℕ → Bool) → Objects → (lambda offset : ℕ) → (many i : ℕ) → Bool
any_captured classes within o n offset zero i = false
any_captured classes within o n offset (suc many) i = passes (are_captured classes within o offset) (part_of classes n i)
    || any_captured classes within o n offset many (suc i)

-- where lambdas nest no deeper than `depth`
abbrev pub captured_within : ℕ → List Class → Objects → (lambda offset : ℕ) → Bool
captured_within zero classes o n offset = false
captured_within (suc depth) classes o n offset = any_captured classes (captured_within depth classes o) o n offset (count_of_parts classes n) 0

-- no class nests deeper than classes were completed before it
abbrev pub depth_of : List Class → ℕ → ℕ
depth_of classes n = suc (unwrap_or (completion_of classes n) 0)

abbrev pub are_captures : List Class → Objects → ℕ → Typ → Bool
are_captures classes o offset t = passes (λ (n : ℕ). captured_within (depth_of classes n) classes o n offset) (closure_in t)

-- objects that are destroyed with an object of this type: itself, the elements of an array, or what a lambda captured
abbrev pub are_destroyed : List Class → Objects → ℕ → Typ → Bool
are_destroyed classes o offset t = are_whole classes o offset t || are_captures classes o offset t

-- Exceptions

pub record Scalar : Type 0 where
  pub offset : ℕ
  pub kind : IntKind

-- an exception has at most 64 bytes, so that no scalar behind them counts
abbrev pub where_counted : ℕ → List Scalar → List Scalar
where_counted at ss = cond (nat_le at EXCEPTION_SIZE) ss []

abbrev pub scalar_at : ℕ → Option IntKind → List Scalar
scalar_at at None = []
scalar_at at (Some k) = record { offset = at; kind = k } ∷ []

abbrev pub stride_of : List Class → Typ → ℕ
stride_of classes t = unwrap_or (size_in classes t) 0

-- what an array holds, through all its bounds, and the value of a `std::tx_exception`; else the type itself
abbrev pub element_of : Typ → Typ
element_of (typ (array t many) c v) = element_of t
element_of (typ (tx_ex t) c v) = element_of t
element_of t = t

-- the scalars of one element, by those of classes
abbrev pub one_element : (of_class : ℕ → ℕ → List Scalar) → Form → ℕ → List Scalar
one_element of_class (class n) at = of_class n at
one_element of_class (closure n) at = of_class n at
one_element of_class f at = scalar_at at (kind_in f)

-- those of so many elements, one behind the other
abbrev pub element_scalars : (one : ℕ → List Scalar) → (stride many at : ℕ) → List Scalar
element_scalars one stride zero at = []
element_scalars one stride (suc many) at = where_counted at (one at ++ element_scalars one stride many (at + stride))

-- those of an object at an offset: of as many elements as its size has room for
abbrev pub object_scalars : List Class → (of_class : ℕ → ℕ → List Scalar) → Typ → ℕ → List Scalar
object_scalars classes of_class t at = cond (stride_of classes (element_of t) == 0) []
    (element_scalars (one_element of_class (form_in (element_of t))) (stride_of classes (element_of t))
    (stride_of classes t / stride_of classes (element_of t)) at)

abbrev pub part_scalars : List Class → (of_class : ℕ → ℕ → List Scalar) → ℕ → Option Part → List Scalar
part_scalars classes of_class at None = []
part_scalars classes of_class at (Some p) = object_scalars classes of_class p.typ (at + p.offset)

-- those of so many parts from one on; a class pointer is no part
abbrev pub scalars_from : List Class → (of_class : ℕ → ℕ → List Scalar) → (class at : ℕ) → (many i : ℕ) → List Scalar
scalars_from classes of_class n at zero i = []
scalars_from classes of_class n at (suc many) i = part_scalars classes of_class at (part_of classes n i) ++ scalars_from classes of_class n at many (suc i)

-- where classes nest no deeper than `depth`
abbrev pub scalars_within : ℕ → List Class → ℕ → ℕ → List Scalar
scalars_within zero classes n at = []
scalars_within (suc depth) classes n at = scalars_from classes (scalars_within depth classes) n at (count_of_parts classes n) 0

-- the scalars of an object of this type: those of its base, its members and its elements, in order; no class nests deeper than there are classes
abbrev pub scalars_of : List Class → Typ → List Scalar
scalars_of classes t = object_scalars classes (scalars_within (length classes) classes) t 0

abbrev pub is_field_of : Scalar → TKind → Bool
is_field_of s (Field offset kind) = offset == s.offset && kind_eq s.kind kind
is_field_of s kind = false

abbrev pub are_fields : List Scalar → List Head → Bool
are_fields [] [] = true
are_fields (s ∷ ss) (h ∷ hs) = is_field_of s h.kind && are_fields ss hs
are_fields ss hs = false

abbrev pub is_value_form : Form → Bool
is_value_form f = is_object_form f || is_some (kind_in f)

-- the scalars of an exception of this type, which has at most 64 bytes
abbrev pub are_scalars : List Class → Typ → List Head → Bool
are_scalars classes t hs = is_value_form (form_in t) && passes (λ (size : ℕ). nat_le size EXCEPTION_SIZE) (size_in classes t)
    && are_fields (scalars_of classes t) hs
