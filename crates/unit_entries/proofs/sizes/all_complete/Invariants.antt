use Rattle.std.proofs.Common.{map, drop}
use Rattle.cpp_tree.specs.cpp_types.Typ.{typ_of}
use Rattle.cpp_tree.specs.cpp_types.Class.{classes_of}
use Rattle.cpp_tree.specs.cpp_layout.Frames.{AllComplete}
use Rattle.unit_entries.proofs.sizes.all_complete.Given as goal

-- all items are complete where those that are left are
abbrev pub invariant-loop-item : goal.invariant-loop-item
invariant-loop-item l = AllComplete (classes_of l.classes) (map typ_of (drop l.item-index l.items)) → AllComplete (classes_of l.classes) (map typ_of l.items)
