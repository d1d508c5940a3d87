-- What the parts of objects that the code lists show.
use Rattle.std.specs.Prelude.{ℕ, ◌+◌, List, [], ◌∷◌}
use Rattle.cpp_types.specs.Typ.{typ_of}
use Rattle.cpp_types.specs.Class.{Class, Member}
use Rattle.elab_conv.specs.cpp_layout.Layout.{extent_of, next_multiple}
use Rattle.elab_conv.specs.elab_rules.Objects.{Part}
use Rattle.elab_init.specs.declared.parts.ObjectPart.{ObjectPart}

abbrev pub part_of : ObjectPart → Part
part_of p = record { offset = p.offset; typ = typ_of p.ty }

-- members behind items that end here
abbrev pub placed : List Class → ℕ → List Member → List Part
placed classes end [] = []
placed classes end (m ∷ ms) = record { offset = next_multiple end (extent_of classes m.typ).align; typ = m.typ }
    ∷ placed classes (next_multiple end (extent_of classes m.typ).align + (extent_of classes m.typ).size) ms
