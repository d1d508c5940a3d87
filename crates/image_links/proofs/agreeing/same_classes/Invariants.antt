use Rattle.std.proofs.Common.{◌≡◌, drop, map}
use Rattle.tx_code.specs.Images.{image_class_view}
use Rattle.tx_code.specs.Views.{image_view}
use Rattle.src_bind.specs.Bounds.{given}
use Rattle.image_links.specs.Agreeing.{same_classes}
use Rattle.image_links.proofs.agreeing.same_classes.Given as goal

abbrev pub invariant-loop-d : goal.invariant-loop-d
invariant-loop-d l = same_classes (image_view l.image) (given l.bound) l.class l.of l.d (map image_class_view (drop l.d l.image.classes.items))
    ≡ same_classes (image_view l.image) (given l.bound) l.class l.of 0 (image_view l.image).classes
