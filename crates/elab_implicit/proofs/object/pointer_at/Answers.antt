use Rattle.elab_implicit.specs.Building.{stored_tree}
use Rattle.elab_implicit.proofs.ObjectParts.{list_made}
use Rattle.elab_implicit.proofs.object.pointer_at.Goals as goal

pub returns : goal.returns
returns c = list_made _ _ _ (stored_tree c.args.at c.args.class c.args.offset) _ c.in_ok-made.ensures c.one_of.ensures
