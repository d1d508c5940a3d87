-- What the calls on sizes need, and how their answers show what Layout defines.
use Rattle.std.specs.Prelude.{◌≡◌, ◌≤◌, ◌<◌, ℕ, Bool, false, ◌||◌, ◌==◌, ◌++◌, max, List, Option, Some, slice_get, map, take, length}
use Rattle.cpp_types.specs.Typ.{typ, Form, array, tx_ex}
use Rattle.cpp_types.specs.Class.{Class, Member, CompleteBelow, completion_of, held, held_form}
use Rattle.cpp_layout.specs.Layout.{Extent, end_from, greatest_align, offset_after, head_items, member_extent, class_extent}
use Rattle.cpp_layout.specs.declared.extents.SizeAlign.{SizeAlign}
use Rattle.cpp_layout.specs.declared.cursor.LayoutCursor.{LayoutCursor}
use Rattle.cpp_layout.specs.declared.extents.TheConstants.{GREATEST_SIZE}

-- What a type needs

pub record IsComplete (classes : List Class) (n : ℕ) : Type 0 where
  pub number : ℕ
  pub complete : completion_of classes n ≡ Some number

-- the class that a value of the form holds, if it holds one, is complete
pub record HoldsComplete (classes : List Class) (f : Form) : Type 0 where
  pub held : (e : ℕ) → held_form f ≡ Some e → IsComplete classes e

-- the base, if there is one, is complete
pub record BaseComplete (classes : List Class) (base : Option ℕ) : Type 0 where
  pub complete : (b : ℕ) → base ≡ Some b → IsComplete classes b

-- the classes that the members hold were completed before `limit` others
pub record HeldBelow (classes : List Class) (limit : ℕ) (members : List Member) : Type 0 where
  pub held : (i : ℕ) (m : Member) → slice_get members i ≡ Some m → (e : ℕ) → held m.typ ≡ Some e → CompleteBelow classes limit e

-- the class is in the list, and has a member of index `i`
pub record HasMember (classes : List Class) (n : ℕ) (i : ℕ) : Type 0 where
  pub owner : Class
  pub found : slice_get classes n ≡ Some owner
  pub member : i < length owner.members

-- an array of no elements, or of such arrays
abbrev pub is_vacant : Form → Bool
is_vacant (array (typ f c v) n) = n == 0 || is_vacant f
is_vacant (tx_ex (typ f c v)) = is_vacant f
is_vacant f = false

-- Sizes and alignments

-- the extent, whose size does not pass 1,048,576
pub record Measured (e : Extent) (s : SizeAlign) : Type 0 where
  pub size : s.size ≡ e.size
  pub align : s.align ≡ e.align
  pub within : e.size ≤ GREATEST_SIZE
  pub low : 1 ≤ e.align
  pub high : e.align ≤ 8

abbrev pub shown : SizeAlign → Extent
shown s = record { size = s.size; align = s.align }

abbrev pub member_extents : List Class → List Member → List Extent
member_extents classes members = map (member_extent (class_extent classes)) members

-- the offset of a member after the items before it
abbrev pub member_offset : List Class → ℕ → Class → ℕ → Member → ℕ
member_offset classes n c i m = offset_after (head_items (class_extent classes) classes n c ++ member_extents classes (take i c.members))
    (member_extent (class_extent classes) m)

-- Rows of items

abbrev pub empty_cursor : LayoutCursor
empty_cursor = record { end = 0; align = 1 }

-- how far items reach that do not pass 1,048,576, and their greatest alignment
pub record InBounds (cursor : LayoutCursor) : Type 0 where
  pub end : cursor.end ≤ GREATEST_SIZE
  pub low : 1 ≤ cursor.align
  pub high : cursor.align ≤ 8

-- the cursor `from` with more items after it
pub record Follows (from : LayoutCursor) (items : List Extent) (cursor : LayoutCursor) : Type 0 where
  pub end : cursor.end ≡ end_from from.end items
  pub align : cursor.align ≡ max from.align (greatest_align items)
  pub bounds : InBounds cursor
