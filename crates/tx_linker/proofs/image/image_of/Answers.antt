use Rattle.link_faults.specs.Answers.{Links}
use Rattle.tx_linker.specs.Kept.{objects_of}
use Rattle.tx_linker.specs.Parts.{parts_view}
use Rattle.tx_linker.proofs.WholeLinks.{image_is}
use Rattle.tx_linker.proofs.image.image_of.Goals as goal

pub image_with-requires : goal.image_with-requires
image_with-requires c =
    let k = c.in_ok-kept.kept in
    let a = c.in_ok-kept.ensures.kept in
    let links : Links (objects_of k) = rw c.in_ok-kept.ensures.objects c.requires.links in
    image_is (objects_of k) (parts_view c.in_ok-parts.parts) (λ n d m. (a.known n d m).object) a.few links c.in_ok-parts.ensures
