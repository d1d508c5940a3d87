use Rattle.std.proofs.Common.{length, refl}
use Rattle.std.proofs.lemmas.Option.{slice_get_read}
use Rattle.cpp_tree.proofs.Shown.{tree_of_node}
use Rattle.tree_fold.proofs.Copied.{below_all}
use Rattle.tree_fold.proofs.copying.node_at.Goals as goal

pub returns-clause-tree : goal.returns-clause-tree
returns-clause-tree c = tree_of_node c.args.nodes.now c.args.id c.index-nodes-id.result c.requires.ordered
    (slice_get_read c.args.nodes.now (length c.args.nodes.now) c.args.id.0 c.index-nodes-id.result refl c.requires.within c.index-nodes-id.is)

pub returns-clause-lower : goal.returns-clause-lower
returns-clause-lower c = c.requires.ordered.lower c.args.id.0 c.index-nodes-id.result
    (slice_get_read c.args.nodes.now (length c.args.nodes.now) c.args.id.0 c.index-nodes-id.result refl c.requires.within c.index-nodes-id.is)

pub returns-clause-below : goal.returns-clause-below
returns-clause-below c = below_all c.args.nodes.now c.args.id.0 c.index-nodes-id.result c.requires.ordered c.requires.within c.index-nodes-id.is
