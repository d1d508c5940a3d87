use Rattle.std.proofs.Common.{rules}
use Rattle.elab_units.proofs.Bodied.{no_trees}
use Rattle.elab_units.proofs.beginning.start_with.Goals as goal

pub returns-clause-nodes : goal.returns-clause-nodes
returns-clause-nodes c = no_trees _ (search rules)
