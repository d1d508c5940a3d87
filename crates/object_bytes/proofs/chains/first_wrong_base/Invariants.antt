use Rattle.std.proofs.Common.{◌≡◌, ◌+◌, length, drop, map}
use Rattle.std.specs.List.{flat_map}
use Rattle.tx_code.specs.Objects.{class_view}
use Rattle.object_bytes.specs.Spelling.{class_bytes}
use Rattle.object_bytes.specs.Objects.{wrong_base_from}
use Rattle.object_bytes.specs.Chains.{AreSteps}
use Rattle.object_bytes.proofs.chains.first_wrong_base.Given as goal

abbrev pub invariant-loop-class : goal.invariant-loop-class
invariant-loop-class l = (wrong_base_from (map class_view l.classes) l.at (map class_view (drop l.class-index l.classes)) ≡ wrong_base_from
    (map class_view l.classes) l.start (map class_view l.classes))
    × (l.at + length (flat_map class_bytes (map class_view (drop l.class-index l.classes)))
    ≡ l.start + length (flat_map class_bytes (map class_view l.classes))) × AreSteps (map class_view l.classes) l.known.items
