-- The layouts that are kept of the classes that a class holds.
use Rattle.std.specs.Prelude.{◌≡◌, ◌≢◌, ◌<◌, ◌+◌, ℕ, List, [], ◌∷◌, Option, Some, None, slice_get, if◌then◌else◌, MatchOption}
use Rattle.cpp_types.specs.Typ.{Form}
use Rattle.cpp_types.specs.Class.{Class, Member, held, held_form}
use Rattle.cpp_layout.specs.Layout.{Extent, class_extent, next_multiple}
use Rattle.cpp_layout.specs.Measured.{IsComplete, Measured, Follows}
use Rattle.cpp_layout.specs.declared.extents.SizeAlign.{SizeAlign}
use Rattle.cpp_layout.specs.declared.cursor.LayoutCursor.{LayoutCursor}
use Rattle.cpp_layout.specs.declared.extents.TheConstants.{GREATEST_SIZE}
use Rattle.elab_ctx.specs.declared.class_layout.ClassLayout.{ClassLayout}
use Rattle.class_layouts.specs.declared.members.PlacedMembers.{PlacedMembers}

-- what a layout that may be there says of the size
abbrev pub known_extent : Option ClassLayout → Option SizeAlign
known_extent (Some l) = if l.is_known then Some l.extent else None
known_extent None = None

-- it is that of an extent, unless this passes 1,048,576 bytes
abbrev pub Says : Extent → Option ClassLayout → Type 0
Says e o = MatchOption (known_extent o) (GREATEST_SIZE < e.size) (λ s. Measured e s)

-- a class is complete, and its layout stands in the list
pub record Keeps (classes : List Class) (layouts : List ClassLayout) (n : ℕ) : Type 0 where
  pub complete : IsComplete classes n
  pub says : Says (class_extent classes n) (slice_get layouts n)

-- so it is with each complete class but one
pub record Serves (classes : List Class) (layouts : List ClassLayout) (own : ℕ) : Type 0 where
  pub other : (n : ℕ) → n ≢ own → IsComplete classes n → Keeps classes layouts n

-- with the class that a value of the form holds, if it holds one
pub record HoldsKept (classes : List Class) (layouts : List ClassLayout) (f : Form) : Type 0 where
  pub held : (e : ℕ) → held_form f ≡ Some e → Keeps classes layouts e

-- with the classes that the members hold
pub record MembersKept (classes : List Class) (layouts : List ClassLayout) (members : List Member) : Type 0 where
  pub held : (i : ℕ) (m : Member) → slice_get members i ≡ Some m → (e : ℕ) → held m.typ ≡ Some e → Keeps classes layouts e

-- the base, if there is one, has its layout in the list
pub record BaseKept (class_at : ℕ → Extent) (layouts : List ClassLayout) (base : Option ℕ) : Type 0 where
  pub says : (b : ℕ) → base ≡ Some b → Says (class_at b) (slice_get layouts b)

-- where items lie that stand one after another from `start` on, each at the next multiple of its alignment
abbrev pub places_from : ℕ → List Extent → List ℕ
places_from start [] = []
places_from start (e ∷ es) = next_multiple start e.align ∷ places_from (next_multiple start e.align + e.size) es

-- these items after a cursor
pub record AreMembers (from : LayoutCursor) (items : List Extent) (placed : PlacedMembers) : Type 0 where
  pub follows : Follows from items placed.cursor
  pub offsets : placed.offsets.items ≡ places_from from.end items
