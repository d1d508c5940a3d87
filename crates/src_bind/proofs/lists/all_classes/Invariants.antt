use Rattle.std.proofs.Common.{◌≡◌, ◌++◌, drop, map}
use Rattle.cpp_tree.specs.cpp_types.Class.{classes_of}
use Rattle.cpp_tree.specs.Units.{unit_of}
use Rattle.src_mean.specs.Links.{all_classes}
use Rattle.src_bind.specs.Defs.{defs_of}
use Rattle.src_bind.proofs.lists.all_classes.Given as goal

abbrev pub invariant-loop-i : goal.invariant-loop-i
invariant-loop-i l = defs_of l.all.items ++ all_classes (classes_of l.program.classes.items) l.i (map unit_of (drop l.i l.program.units.items))
    ≡ all_classes (classes_of l.program.classes.items) 0 (map unit_of l.program.units.items)
