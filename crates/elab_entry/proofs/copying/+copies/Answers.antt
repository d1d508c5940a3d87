use Rattle.std.proofs.Common.{refl}
use Rattle.elab_stmt.specs.cpp_tree.Arena.{trees_of, tree_at}
use Rattle.elab_entry.proofs.Copies.{node_copied, kid_copied, kids_copied}
use Rattle.elab_entry.proofs.copying.+copies.Goals as goal

pub copy_tree-returns : goal.copy_tree-returns
copy_tree-returns t c = node_copied (tree_at (trees_of c.args.from.now.items) c.args.id) c.node_at-node.result.now.kind _ c.node_at-node.result.now.cat
    c.node_at-node.result.now.at _ _ _ _ _ _ c.node_at-node.ensures.kind c.node_at-node.ensures.typ c.node_at-node.ensures.cat c.node_at-node.ensures.place
    c.in_ok-ids.ensures.kids c.in_ok-kids.ensures c.copy_node.ensures

pub copy_all-loop-id-preserved : goal.copy_all-loop-id-preserved
copy_all-loop-id-preserved t c = kid_copied (trees_of c.args.from.now.items) c.args.ids.now c.loop-id.id-index _
    (record { 0 = 0 }) _ _ _ _ _ _ c.loop-id.invariant c.loop-id-test.true refl c.in_ok-kid.ensures c.in_ok-keep.ensures

pub copy_all-returns : goal.copy_all-returns
copy_all-returns t c = kids_copied _ c.args.ids.now c.loop-id.id-index _ _ _ c.loop-id.invariant c.loop-id-test.false
