-- Parts of rows of elab_rules on virtual functions.
use Rattle.std.specs.Prelude.{ℕ, ◌+◌, nat_lt, List, [], ◌∷◌, unwrap_or, slice_get, if◌then◌else◌}
use Rattle.cpp_types.specs.Class.{Class}
use Rattle.elab_make.specs.cpp_layout.Layout.{base_items, class_extent, end_from}
use Rattle.elab_make.specs.cpp_tree.declared.kinds.TKind.{TKind}
use Rattle.elab_make.specs.cpp_tree.declared.kinds.TKind.TheVariants.{VirtualCall}
use Rattle.elab_make.specs.cpp_tree.Units.{SlotFunc}
use Rattle.elab_make.specs.elab_ctx.Ctx.{Ctx}
use Rattle.elab_make.specs.elab_rules.Calls.{slot_of_function, pointer_offset, base_of_class}

abbrev pub slots_in : Ctx → ℕ → List SlotFunc
slots_in c n = unwrap_or (slice_get c.slots n) []

-- where the base of a class ends
abbrev pub end_of_base : List Class → ℕ → ℕ
end_of_base classes n = end_from 0 (base_items (class_extent classes) (base_of_class (slice_get classes n)))

abbrev pub virtual_kind : Ctx → ℕ → ℕ → TKind
virtual_kind c n k = VirtualCall k n (slot_of_function c n k) (unwrap_or (pointer_offset c.classes n) 0)

-- how many of some places stand before a place
abbrev pub places_before : ℕ → List ℕ → ℕ
places_before k [] = 0
places_before k (p ∷ ps) = (if nat_lt p k then 1 else 0) + places_before k ps
