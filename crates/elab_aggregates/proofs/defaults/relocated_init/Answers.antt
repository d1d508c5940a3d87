use Rattle.std.proofs.Common.{arith}
use Rattle.elab_make.proofs.cpp_tree.Shown.{many_trees}
use Rattle.elab_aggregates.proofs.defaults.relocated_init.Goals as goal

pub relocated-requires-clause-within : goal.relocated-requires-clause-within
relocated-requires-clause-within c =
    let all = many_trees c.args.env.now.default_nodes.items in
    let count = c.len.ensures in
    let below = c.if-init-len.false in
    omega arith
