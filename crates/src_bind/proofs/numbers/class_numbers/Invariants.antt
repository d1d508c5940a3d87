use Rattle.std.proofs.Common.{◌≡◌, ◌++◌, drop}
use Rattle.cpp_tree.specs.cpp_types.Class.{classes_of}
use Rattle.src_bind.specs.Defs.{defs_of}
use Rattle.src_bind.specs.Numbers.{class_numbers}
use Rattle.src_bind.proofs.numbers.class_numbers.Given as goal

abbrev pub invariant-loop-class : goal.invariant-loop-class
invariant-loop-class l = l.numbers.items ++ class_numbers (defs_of l.kept) (classes_of (drop l.class-index l.classes))
    ≡ class_numbers (defs_of l.kept) (classes_of l.classes)
