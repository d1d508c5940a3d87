use Rattle.tree_forests.proofs.Forests.{forests_are_well_formed}
use Rattle.tree_forests.proofs.laws.forests.Goals as goal

pub returns : goal.returns
returns c = forests_are_well_formed
