-- Where things lie in memory: sizes and alignments, offsets, frames and addresses.
use Rattle.std.specs.Prelude.{Bool, true, false, not, ◌&&◌, ℕ, zero, suc, ◌+◌, ◌-◌, ◌*◌, ◌/◌, ◌^◌, max, List, [], ◌∷◌, ◌++◌, map, Option, Some, None, unwrap_or}
use Rattle.std.specs.Prelude.{slice_get}
use Rattle.std.specs.List.{list_any}
use Rattle.tx_ints.specs.declared.kinds.IntKind.{IntKind}
use Rattle.tx_ints.specs.declared.kinds.IntKind.TheVariants.{Bool as BoolKind, Char, SChar, UChar, Short, UShort, Int, UInt, Long, ULong, LLong, ULLong}
use Rattle.cpp_types.specs.Typ.{Typ, typ, Form, int, enum, null, ptr, ref, array, class, closure, tx_ex}
use Rattle.cpp_types.specs.Class.{Class, Member, Function, completion_of}
use Rattle.cpp_types.specs.Conversion.{bases, form_of}

-- Addresses

abbrev pub function_address : ℕ → ℕ
function_address i = 2 ^ 40 + 16 * i

abbrev pub table_address : ℕ → ℕ
table_address c = 2 ^ 41 + 16 * c

-- Items one after another

-- how many bytes something takes, and of what its address is a multiple
pub record Extent : Type 0 where
  pub size : ℕ
  pub align : ℕ

-- the least multiple of `a` that is not below `n`
abbrev pub next_multiple : ℕ → ℕ → ℕ
next_multiple n a = (n + (a - 1)) / a * a

-- where items end that stand one after another from `start` on, each at the next multiple of its alignment
abbrev pub end_from : ℕ → List Extent → ℕ
end_from start [] = start
end_from start (e ∷ es) = end_from (next_multiple start e.align + e.size) es

-- the offset of an item: the next multiple of its alignment after the items before it
abbrev pub offset_after : List Extent → Extent → ℕ
offset_after items e = next_multiple (end_from 0 items) e.align

abbrev pub greatest_align : List Extent → ℕ
greatest_align [] = 1
greatest_align (e ∷ es) = max e.align (greatest_align es)

-- Types

abbrev pub kind_size : IntKind → ℕ
kind_size BoolKind = 1
kind_size Char = 1
kind_size SChar = 1
kind_size UChar = 1
kind_size Short = 2
kind_size UShort = 2
kind_size Int = 4
kind_size UInt = 4
kind_size Long = 8
kind_size ULong = 8
kind_size LLong = 8
kind_size ULLong = 8

-- a scalar is aligned to its size
abbrev pub scalar : ℕ → Extent
scalar n = record { size = n; align = n }

-- a form's extent, by the extents of the classes; no object has type `void` or a function's
abbrev pub form_extent : (ℕ → Extent) → Form → Extent
form_extent class_at (int k) = scalar (kind_size k)
form_extent class_at (enum n s) = scalar 4
form_extent class_at null = scalar 8
form_extent class_at (ptr t) = scalar 8
form_extent class_at (ref t) = scalar 8
form_extent class_at (array (typ f c v) n) = record { size = n * (form_extent class_at f).size; align = (form_extent class_at f).align }
form_extent class_at (tx_ex (typ f c v)) = form_extent class_at f
form_extent class_at (class n) = class_at n
form_extent class_at (closure n) = class_at n
form_extent class_at f = scalar 1

-- Classes

abbrev pub is_virtual_function : Function → Bool
is_virtual_function f = f.is_virtual

abbrev pub functions_of : Option Class → List Function
functions_of (Some c) = c.functions
functions_of None = []

abbrev pub has_virtual : List Class → ℕ → Bool
has_virtual classes n = list_any is_virtual_function (functions_of (slice_get classes n))

-- the first class of its chain of bases with a virtual function has the class pointer
abbrev pub has_class_pointer : List Class → ℕ → Bool
has_class_pointer classes n = has_virtual classes n && not (list_any (has_virtual classes) (bases classes n))

abbrev pub base_items : (ℕ → Extent) → Option ℕ → List Extent
base_items class_at None = []
base_items class_at (Some b) = class_at b ∷ []

abbrev pub pointer_items : Bool → List Extent
pointer_items true = scalar 8 ∷ []
pointer_items false = []

abbrev pub member_extent : (ℕ → Extent) → Member → Extent
member_extent class_at m = form_extent class_at (form_of m.typ)

-- what stands before the members: the base and the class pointer
abbrev pub head_items : (ℕ → Extent) → List Class → ℕ → Class → List Extent
head_items class_at classes n c = base_items class_at c.base ++ pointer_items (has_class_pointer classes n)

abbrev pub items_of : (ℕ → Extent) → List Class → ℕ → Class → List Extent
items_of class_at classes n c = head_items class_at classes n c ++ map (member_extent class_at) c.members

-- the size is rounded up to the alignment, and is at least 1
abbrev pub whole : List Extent → Extent
whole items = record { size = max 1 (next_multiple (end_from 0 items) (greatest_align items)); align = greatest_align items }

abbrev pub record_extent : (ℕ → Extent) → List Class → ℕ → Option Class → Extent
record_extent class_at classes n (Some c) = whole (items_of class_at classes n c)
record_extent class_at classes n None = scalar 1

-- a class's extent, where classes nest in it no deeper than `depth`
abbrev pub extent_within : ℕ → List Class → ℕ → Extent
extent_within zero classes n = scalar 1
extent_within (suc depth) classes n = record_extent (extent_within depth classes) classes n (slice_get classes n)

-- no class nests deeper than classes were completed before it
abbrev pub class_extent : List Class → ℕ → Extent
class_extent classes n = extent_within (suc (unwrap_or (completion_of classes n) 0)) classes n

abbrev pub extent_of : List Class → Typ → Extent
extent_of classes t = form_extent (class_extent classes) (form_of t)

-- Frames

abbrev pub frame_size : List Extent → ℕ
frame_size items = max 16 (next_multiple (end_from 0 items) 16)
