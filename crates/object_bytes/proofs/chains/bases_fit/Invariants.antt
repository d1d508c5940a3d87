use Rattle.std.proofs.Common.{◌≡◌, drop, map}
use Rattle.std.specs.List.{list_all}
use Rattle.tx_code.specs.Objects.{class_view}
use Rattle.object_bytes.specs.Chains.{AreSteps}
use Rattle.object_bytes.proofs.WholeLaws.{base_is_right}
use Rattle.object_bytes.proofs.chains.bases_fit.Given as goal

abbrev pub invariant-loop-class : goal.invariant-loop-class
invariant-loop-class l = (list_all (base_is_right (map class_view l.classes)) (map class_view (drop l.class-index l.classes)) ≡ list_all
    (base_is_right (map class_view l.classes)) (map class_view l.classes)) × AreSteps (map class_view l.classes) l.known.items
