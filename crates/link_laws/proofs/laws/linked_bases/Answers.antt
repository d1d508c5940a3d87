use Rattle.link_laws.proofs.WholeImages.{all_objects}
use Rattle.link_laws.proofs.WholeBases.{bases_image}
use Rattle.link_laws.proofs.laws.linked_bases.Goals as goal

pub returns : goal.returns
returns c = λ os i h n o. bases_image os i (all_objects os h) n o
