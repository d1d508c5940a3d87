use Rattle.std.proofs.Common.{◌≡◌, drop}
use Rattle.std.specs.Prelude.{fold}
use Rattle.cpp_tree.specs.cpp_types.Class.{classes_of}
use Rattle.low_code.specs.Caught.{names_of, with_class, caught_names}
use Rattle.low_code.proofs.caught.caught_classes.Given as goal

abbrev pub invariant-loop-class : goal.invariant-loop-class
invariant-loop-class l =
    fold (with_class (classes_of l.classes) l.name) (names_of l.caught.items) (classes_of (drop l.class-index l.classes)) ≡ caught_names (classes_of l.classes) l.name
