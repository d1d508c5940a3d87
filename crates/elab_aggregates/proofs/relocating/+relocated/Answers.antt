use Rattle.std.proofs.Common.{◌∙◌, refl, sym}
use Rattle.elab_make.specs.cpp_types.Typ.{typ_of}
use Rattle.elab_make.specs.cpp_tree.Arena.{trees_of, tree_at}
use Rattle.elab_aggregates.specs.Relocated.{this_at}
use Rattle.elab_aggregates.proofs.Relocation.{this_read, node_moved, kid_moved, kids_moved}
use Rattle.elab_aggregates.proofs.relocating.+relocated.Goals as goal

pub relocated-returns-then-reads_this : goal.relocated-returns-then-reads_this
relocated-returns-then-reads_this t c = this_read c.args.by (this_at (trees_of c.args.nodes.now.items) (typ_of c.args.target.now) c.args.this)
    (tree_at (trees_of c.args.from.now.items) c.args.id) c.node_at-node.result.now.kind _ c.node_at-node.result.now.cat c.node_at-node.result.now.at _ _ _ _
    c.node_at-node.ensures.kind c.node_at-node.ensures.typ c.node_at-node.ensures.cat c.node_at-node.ensures.place c.in_ok-kids.ensures.kids
    (sym c.if-reads_this.true ∙ c.reads_this.ensures) c.pointer_tree.ensures

pub relocated-returns : goal.relocated-returns
relocated-returns t c = node_moved c.args.by (this_at (trees_of c.args.nodes.now.items) (typ_of c.args.target.now) c.args.this)
    (tree_at (trees_of c.args.from.now.items) c.args.id) c.node_at-node.result.now.kind _ c.node_at-node.result.now.cat c.node_at-node.result.now.at _ _ _ _ _ _
    c.node_at-node.ensures.kind c.node_at-node.ensures.typ c.node_at-node.ensures.cat c.node_at-node.ensures.place c.in_ok-kids.ensures.kids
    (sym c.if-reads_this.false ∙ c.reads_this.ensures) c.in_ok-moved.ensures c.moved_node.ensures

pub all_relocated-loop-id-preserved : goal.all_relocated-loop-id-preserved
all_relocated-loop-id-preserved t c = kid_moved c.args.by (typ_of c.args.target.now) c.args.this
    (trees_of c.args.from.now.items) c.args.ids.now c.loop-id.id-index _
    (record { 0 = 0 }) _ _ _ _ _ _ c.loop-id.invariant c.requires.this c.loop-id-test.true refl c.in_ok-moved.ensures c.in_ok-keep.ensures

pub all_relocated-returns : goal.all_relocated-returns
all_relocated-returns t c = kids_moved _ _ _ c.args.ids.now c.loop-id.id-index _ _ _ c.loop-id.invariant c.loop-id-test.false
