use Rattle.std.proofs.Common.{◌≡◌, drop, map}
use Rattle.tx_code.specs.Images.{image_class_view}
use Rattle.tx_code.specs.Views.{image_view}
use Rattle.tx_code.specs.Program.{class_address}
use Rattle.src_bind.specs.Tables.{typed, linked_of}
use Rattle.src_bind.specs.Bounds.{given}
use Rattle.image_links.specs.Books.{all_places, is_of_type, is_slot}
use Rattle.image_links.proofs.tables.is_slot.Given as goal

abbrev pub invariant-loop-n : goal.invariant-loop-n
invariant-loop-n l = all_places (λ d. is_of_type (image_view l.image) l.number ((linked_of (given l.bound)).slot (class_address d) l.class l.slot)) l.n
    (map image_class_view (drop l.n l.image.classes.items))
    ≡ is_slot (image_view l.image) (linked_of (given l.bound)) (typed (given l.bound)) l.number l.class l.slot
