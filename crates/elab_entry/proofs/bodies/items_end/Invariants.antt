use Rattle.std.proofs.Common.{◌≡◌, map, drop}
use Rattle.cpp_types.specs.Typ.{typ_of}
use Rattle.cpp_types.specs.Class.{classes_of}
use Rattle.elab_stmt.specs.cpp_layout.Layout.{extent_of, end_from}
use Rattle.elab_entry.proofs.bodies.items_end.Given as goal

abbrev pub invariant-loop-item : goal.invariant-loop-item
invariant-loop-item l = end_from l.end (map (extent_of (classes_of l.env.classes.items)) (map typ_of (drop l.item-index l.items)))
    ≡ end_from 0 (map (extent_of (classes_of l.env.classes.items)) (map typ_of l.items))
