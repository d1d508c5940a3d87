use Rattle.linked_images.proofs.Noted.{linked_where_noted}
use Rattle.linked_images.proofs.laws.noted_images_are_linked.Goals as goal

pub returns : goal.returns
returns c = λ g i b h can all. linked_where_noted g i b all h can
