use Rattle.link_laws.proofs.WholeImages.{all_objects, size_image}
use Rattle.link_laws.proofs.WholeCells.{cells_image}
use Rattle.link_laws.proofs.laws.linked_globals.Goals as goal

pub returns-clause-cells : goal.returns-clause-cells
returns-clause-cells c = λ os i h l o. cells_image os i (all_objects os h) l o

pub returns-clause-size : goal.returns-clause-size
returns-clause-size c = λ os i o l. size_image os i o l
