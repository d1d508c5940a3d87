use Rattle.std.proofs.Common.{arith}
use Rattle.elab_types.proofs.KidLists.{are_many}
use Rattle.elab_types.proofs.kids.kids_of.Goals as goal

pub returns-clause-trees : goal.returns-clause-trees
returns-clause-trees c = are_many c.args.ids.now (omega arith)
