use Rattle.image_links.proofs.Agreed.{linked_where_agreed}
use Rattle.image_links.proofs.Small.{small_where_agreed}
use Rattle.image_links.proofs.laws.agreeing_programs_are_linked.Goals as goal

pub returns : goal.returns
returns c = record { linked = λ i g h. linked_where_agreed i g h; small = λ i g h can. small_where_agreed i g h can }
