use Rattle.link_laws.proofs.WholeImages.{all_objects, few_image, starts_image, slots_image}
use Rattle.link_laws.proofs.laws.linked_functions.Goals as goal

pub returns-clause-few : goal.returns-clause-few
returns-clause-few c = λ os i h l o. few_image os i (all_objects os h) l o

pub returns-clause-starts : goal.returns-clause-starts
returns-clause-starts c = λ os i o. starts_image os i o

pub returns-clause-slots : goal.returns-clause-slots
returns-clause-slots c = λ os i o. slots_image os i o
