use Rattle.std.proofs.Common.{◌≡◌, ◌-◌, map, length}
use Rattle.tx_code.specs.Program.{derives}
use Rattle.tx_code.specs.Images.{image_class_view}
use Rattle.image_links.proofs.lookups.is_derived.Given as goal

abbrev pub invariant-loop : goal.invariant-loop
invariant-loop l = derives (map image_class_view l.classes) (length l.classes) l.fn.class l.base
    ≡ derives (map image_class_view l.classes) (length l.classes - l.counter) l.at l.base
