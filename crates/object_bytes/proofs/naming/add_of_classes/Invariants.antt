use Rattle.std.proofs.Common.{◌≡◌, ◌++◌, take, map}
use Rattle.std.specs.List.{flat_map}
use Rattle.tx_code.specs.Objects.{class_view}
use Rattle.tx_code.specs.WellFormed.{named_by_class}
use Rattle.object_bytes.proofs.naming.add_of_classes.Given as goal

abbrev pub invariant-loop-class : goal.invariant-loop-class
invariant-loop-class l = l.out.items ≡ l.fn.out.items ++ flat_map named_by_class (map class_view (take l.class-index l.classes))
