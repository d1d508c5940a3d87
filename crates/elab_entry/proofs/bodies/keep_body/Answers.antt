use Rattle.std.proofs.Common.{◌≡◌, ◌+◌, length, [], fold, arith}
use Rattle.elab_stmt.specs.cpp_tree.Arena.{trees_of, with_node}
use Rattle.elab_stmt.proofs.elab_ctx.Looks.{length_shown}
use Rattle.elab_entry.proofs.bodies.keep_body.Goals as goal

pub copy_tree-requires : goal.copy_tree-requires
unfolding trees_of
copy_tree-requires c = let h : length (fold with_node [] c.args.inside.nodes.items) ≡ 0 + length c.args.inside.nodes.items =
    length_shown [] c.args.inside.nodes.items in omega arith
