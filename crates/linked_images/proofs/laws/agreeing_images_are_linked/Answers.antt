use Rattle.linked_images.proofs.Linked.{linked_where_checked}
use Rattle.linked_images.proofs.laws.agreeing_images_are_linked.Goals as goal

pub returns : goal.returns
returns c = λ g i h can. linked_where_checked g i h can
