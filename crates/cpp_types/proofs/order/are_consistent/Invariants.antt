use Rattle.std.proofs.Common.{◌≡◌, drop, map}
use Rattle.std.specs.List.{list_all}
use Rattle.cpp_types.specs.Class.{class_of, classes_of}
use Rattle.cpp_types.specs.Order.{is_consistent}
use Rattle.cpp_types.proofs.order.are_consistent.Given as goal

abbrev pub invariant-loop-class_record : goal.invariant-loop-class_record
invariant-loop-class_record l = list_all (is_consistent (classes_of l.classes)) (map class_of l.part)
    ≡ list_all (is_consistent (classes_of l.classes)) (map class_of (drop l.class_record-index l.part))
