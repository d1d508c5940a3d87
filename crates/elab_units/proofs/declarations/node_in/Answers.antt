use Rattle.std.proofs.Common.{length}
use Rattle.elab_entry.proofs.elab_types.KidLists.{wider}
use Rattle.elab_units.proofs.declarations.node_in.Goals as goal

pub returns-clause-within : goal.returns-clause-within
returns-clause-within c = wider c.args.id.0 (length c.args.nodes.now) c.node_at.result.now.kids.items c.requires c.node_at.ensures.lower
