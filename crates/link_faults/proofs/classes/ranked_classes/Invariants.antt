use Rattle.std.proofs.Common.{◌≡◌, map, take}
use Rattle.tx_code.specs.Objects.{bytes_of, object_view}
use Rattle.link_faults.specs.Faults.{class_records}
use Rattle.link_faults.specs.RankedClasses.{view_of, ranked_class}
use Rattle.link_faults.proofs.classes.ranked_classes.Given as goal

abbrev pub invariant-loop-object : goal.invariant-loop-object
invariant-loop-object l = map view_of l.classes.items
    ≡ map (ranked_class (map bytes_of l.all)) (class_records (map object_view (take l.object-index l.objects)))
