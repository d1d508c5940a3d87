use Rattle.std.proofs.Common.{arith}
use Rattle.elab_entry.proofs.cpp_tree.Shown.{many_trees}
use Rattle.elab_implicit.proofs.places.stands.Goals as goal

pub returns : goal.returns
returns c =
    let all = many_trees c.args.nodes.now.items in
    let count = c.len.ensures in
    let below = c.if-id-len.false in
    omega arith
