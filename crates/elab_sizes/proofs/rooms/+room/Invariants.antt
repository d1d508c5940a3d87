use Rattle.std.proofs.Common.{◌≡◌, ◌+◌, drop}
use Rattle.cpp_types.specs.Typ.{typs_of}
use Rattle.cpp_types.specs.Class.{classes_of}
use Rattle.elab_rules.specs.Sizes.{typs_length}
use Rattle.elab_sizes.specs.Lengths.{listed_length}
use Rattle.elab_sizes.proofs.rooms.+room.Given as goal

abbrev pub invariant-list_room-loop-ty : goal.invariant-list_room-loop-ty
invariant-list_room-loop-ty l = l.rest + typs_length (classes_of l.classes) (typs_of l.types)
    ≡ l.room + listed_length (classes_of l.classes) l.comma (typs_of (drop l.ty-index l.types))
