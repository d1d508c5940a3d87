use Rattle.std.proofs.Common.{◌≡◌, map, take}
use Rattle.tx_code.specs.Images.{image_class_view}
use Rattle.link_tables.specs.Found.{class_row}
use Rattle.link_parts.specs.Parts.{class_told}
use Rattle.link_parts.proofs.parts.classes_of.Given as goal

abbrev pub invariant-loop-class : goal.invariant-loop-class
invariant-loop-class l = map image_class_view l.classes.items ≡ map (class_told l.numbers) (map class_row (take l.class-index l.kept))
