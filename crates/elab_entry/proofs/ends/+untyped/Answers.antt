use Rattle.std.proofs.Common.{refl, sym, ◌∙◌}
use Rattle.elab_stmt.specs.cpp_tree.Arena.{trees_of, tree_at}
use Rattle.elab_entry.proofs.Copies.{literal_copied, node_untyped, kid_untyped, kids_untyped}
use Rattle.elab_entry.proofs.ends.+untyped.Goals as goal

pub untyped-returns-then-is_literal : goal.untyped-returns-then-is_literal
untyped-returns-then-is_literal t c = literal_copied (tree_at (trees_of c.args.from.now.items) c.args.id) _ _ _ _ c.node_at-node.ensures.kind
    (sym c.is_literal.ensures ∙ c.if-is_literal.true) c.copy_tree.ensures

pub untyped-returns : goal.untyped-returns
untyped-returns t c = node_untyped (tree_at (trees_of c.args.from.now.items) c.args.id) c.node_at-node.result.now.kind _ c.node_at-node.result.now.cat
    c.node_at-node.result.now.at _ _ _ _ _ _ c.node_at-node.ensures.kind c.node_at-node.ensures.typ c.node_at-node.ensures.cat c.node_at-node.ensures.place
    c.in_ok-ids.ensures.kids (sym c.is_literal.ensures ∙ c.if-is_literal.false) c.in_ok-kids.ensures c.untyped_node.ensures

pub all_untyped-loop-id-preserved : goal.all_untyped-loop-id-preserved
all_untyped-loop-id-preserved t c = kid_untyped (trees_of c.args.from.now.items) c.args.ids.now c.loop-id.id-index _
    (record { 0 = 0 }) _ _ _ _ _ _ c.loop-id.invariant c.loop-id-test.true refl c.in_ok-kid.ensures c.in_ok-keep.ensures

pub all_untyped-returns : goal.all_untyped-returns
all_untyped-returns t c = kids_untyped _ c.args.ids.now c.loop-id.id-index _ _ _ c.loop-id.invariant c.loop-id-test.false
