use Rattle.std.proofs.Common.{◌≡◌, ◌++◌, map, take}
use Rattle.tx_code.specs.Objects.{bytes_of, object_view, class_view}
use Rattle.link_faults.specs.Faults.{class_record}
use Rattle.link_faults.specs.RankedClasses.{view_of, ranked_class}
use Rattle.link_faults.proofs.classes.add_classes.Given as goal

abbrev pub invariant-loop-class : goal.invariant-loop-class
invariant-loop-class l = map view_of l.classes.items ≡ map view_of l.fn.classes.items
    ++ map (ranked_class (map bytes_of l.all)) (map (class_record (object_view l.object)) (map class_view (take l.class-index l.object.classes.items)))
