-- How the objects of complete classes are laid out, as it is kept (C++14 9.2 p13).
use Rattle.std.specs.Prelude.{Bool, true, false, ◌&&◌, ℕ, suc, nat_le, List, [], ◌∷◌, count_by, is_some, if◌then◌else◌}
use Rattle.cpp_tree.specs.cpp_types.Class.{Class, Member}
use Rattle.cpp_tree.specs.cpp_layout.Layout.{Extent, class_extent, scalar}
use Rattle.cpp_tree.specs.cpp_layout.Measured.{member_offset, shown}
use Rattle.cpp_tree.specs.cpp_layout.declared.extents.TheConstants.{GREATEST_SIZE}
use Rattle.elab_ctx.specs.declared.class_layout.ClassLayout.{ClassLayout}

-- how many classes are complete
abbrev pub completed_in : List Class → ℕ
completed_in classes = count_by (λ (c : Class). is_some c.complete) classes

-- the size and the alignment of the objects of a class, and where each member lies; nothing, where that is not known
pub record Layout : Type 0 where
  pub is_known : Bool
  pub extent : Extent
  pub offsets : List ℕ

abbrev pub unlaid : Layout
unlaid = record { is_known = false; extent = scalar 1; offsets = [] }

-- where members lie, from the one of an index on
abbrev pub offsets_from : List Class → ℕ → Class → ℕ → List Member → List ℕ
offsets_from classes n c i [] = []
offsets_from classes n c i (m ∷ ms) = member_offset classes n c i m ∷ offsets_from classes n c (suc i) ms

-- of a class that is complete, and whose objects are no larger than the greatest
abbrev pub layout_in : List Class → ℕ → Class → Layout
layout_in classes n c = if is_some c.complete && nat_le (class_extent classes n).size GREATEST_SIZE then
    record { is_known = true; extent = class_extent classes n; offsets = offsets_from classes n c 0 c.members } else unlaid

abbrev pub layouts_from : List Class → ℕ → List Class → List Layout
layouts_from classes n [] = []
layouts_from classes n (c ∷ cs) = layout_in classes n c ∷ layouts_from classes (suc n) cs

-- of each class of a list
abbrev pub layouts_of : List Class → List Layout
layouts_of classes = layouts_from classes 0 classes

-- what a record of the code shows
abbrev pub layout_of : ClassLayout → Layout
layout_of l = record { is_known = l.is_known; extent = shown l.extent; offsets = l.offsets.items }
