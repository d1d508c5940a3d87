use Rattle.std.proofs.Common.{◌≡◌, ◌++◌, drop, map}
use Rattle.cpp_tree.specs.cpp_types.Class.{classes_of}
use Rattle.cpp_tree.specs.Units.{definition_of, unit_of}
use Rattle.src_mean.specs.Links.{classes_defined}
use Rattle.src_bind.specs.Defs.{defs_of}
use Rattle.src_bind.proofs.lists.classes_in.Given as goal

abbrev pub invariant-loop-class : goal.invariant-loop-class
invariant-loop-class l = defs_of l.out.items ++ classes_defined (classes_of l.classes) l.unit l.class-index
    (map definition_of (drop l.class-index l.tree.classes.items)) ≡ classes_defined (classes_of l.classes) l.unit 0 (unit_of l.tree).classes
