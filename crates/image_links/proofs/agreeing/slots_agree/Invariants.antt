use Rattle.std.proofs.Common.{◌≡◌, drop}
use Rattle.tx_code.specs.Views.{image_view}
use Rattle.src_bind.specs.Bounds.{given}
use Rattle.image_links.specs.Books.{all_places}
use Rattle.image_links.specs.Agreeing.{same_slot}
use Rattle.image_links.proofs.agreeing.slots_agree.Given as goal

abbrev pub invariant-loop-n : goal.invariant-loop-n
invariant-loop-n g l = all_places (same_slot (image_view l.image) (given l.bound) l.class l.of l.at) l.n (drop l.n l.slots)
    ≡ all_places (same_slot (image_view l.image) (given l.bound) l.class l.of l.at) 0 l.slots
