-- The frames of functions.
use Rattle.std.specs.Prelude.{◌≡◌, ◌≤◌, ◌<◌, ◌++◌, ◌+◌, ℕ, List, [], ◌∷◌, map, slice_get, Some}
use Rattle.cpp_types.specs.Typ.{Typ}
use Rattle.cpp_types.specs.Class.{Class}
use Rattle.cpp_types.specs.Conversion.{form_of}
use Rattle.cpp_layout.specs.Layout.{Extent, extent_of, offset_after, next_multiple, frame_size}
use Rattle.cpp_layout.specs.Measured.{HoldsComplete}
use Rattle.cpp_layout.specs.declared.frames.FrameRec.{FrameRec}
use Rattle.cpp_layout.specs.declared.frames.PlacedItem.{PlacedItem}
use Rattle.cpp_layout.specs.declared.frames.FrameFault.{FrameFault}
use Rattle.cpp_layout.specs.declared.frames.FrameFault.TheVariants.{TooLarge, Memory}
use Rattle.cpp_layout.specs.declared.frames.TheConstants.{GREATEST_FRAME}

-- the class that a value of an item's type holds, if it holds one, is complete
pub record AllComplete (classes : List Class) (items : List Typ) : Type 0 where
  pub item : (i : ℕ) (t : Typ) → slice_get items i ≡ Some t → HoldsComplete classes (form_of t)

-- the offset of each item after those before it, of which the first stand in `before`
abbrev pub offsets_after : List Extent → List Extent → List ℕ
offsets_after before [] = []
offsets_after before (e ∷ es) = offset_after before e ∷ offsets_after (before ++ e ∷ []) es

abbrev pub item_extents : List Class → List Typ → List Extent
item_extents classes items = map (extent_of classes) items

-- an item after others that end at `from`
pub record IsPlaced (from : ℕ) (e : Extent) (item : PlacedItem) : Type 0 where
  pub offset : item.offset ≡ next_multiple from e.align
  pub end : item.end ≡ item.offset + e.size
  pub within : item.end ≤ GREATEST_FRAME
  pub low : 1 ≤ e.align

pub record IsFrame (classes : List Class) (items : List Typ) (frame : FrameRec) : Type 0 where
  pub offsets : frame.offsets.items ≡ offsets_after [] (item_extents classes items)
  pub size : frame.size ≡ frame_size (item_extents classes items)
  pub within : frame.size ≤ GREATEST_FRAME

abbrev pub HasNoFrame : List Class → List Typ → FrameFault → Type 0
HasNoFrame classes items TooLarge = GREATEST_FRAME < frame_size (item_extents classes items)
HasNoFrame classes items Memory = Unit {0}
