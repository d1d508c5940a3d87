use Rattle.std.proofs.Common.{◌≡◌, drop, map}
use Rattle.std.specs.List.{list_all}
use Rattle.tx_code.specs.WellFormed.{class_fits}
use Rattle.tx_code.specs.Objects.{class_view}
use Rattle.object_check.proofs.entries.classes_fit.Given as goal

abbrev pub invariant-loop-class : goal.invariant-loop-class
invariant-loop-class l = list_all (class_fits l.names) (map class_view l.classes)
    ≡ list_all (class_fits l.names) (map class_view (drop l.class-index l.classes))
