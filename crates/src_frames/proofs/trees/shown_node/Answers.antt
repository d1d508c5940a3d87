use Rattle.std.proofs.Common.{◌∙◌, sym, ap}
use Rattle.src_bind.specs.Bounds.{given}
use Rattle.src_frames.specs.Trees.{node_found}
use Rattle.src_frames.proofs.Nodes.{tree_found, tree_missing}
use Rattle.src_frames.proofs.trees.shown_node.Goals as goal

pub returns-in-Some : goal.returns-in-Some
returns-in-Some c = tree_found (given c.args.bound.now).program c.args.unit c.args.id c.in-Some.node.now
    (sym (c.in-Some.ensures ∙ ap (λ z. node_found z c.args.unit c.args.id) c.program.ensures))

pub returns-in-None : goal.returns-in-None
returns-in-None c = tree_missing (given c.args.bound.now).program c.args.unit c.args.id
    (sym (c.in-None.ensures ∙ ap (λ z. node_found z c.args.unit c.args.id) c.program.ensures))
