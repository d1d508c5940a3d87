use Rattle.std.proofs.Common.{◌∙◌, refl}
use Rattle.elab_make.specs.cpp_tree.Arena.{trees_of}
use Rattle.elab_aggregates.proofs.Requalification.{as_it_stands, node_requalified, kid_added, kids_added}
use Rattle.elab_aggregates.proofs.requalifying.+requalified.Goals as goal

pub requalified-returns-then-not-has_qualifiers : goal.requalified-returns-then-not-has_qualifiers
requalified-returns-then-not-has_qualifiers t c = as_it_stands (trees_of c.args.nodes.now.items) c.args.id _ _ c.args.is_const c.args.is_volatile _ _
    c.node_at.ensures.kind c.in_ok-kids.ensures.kids c.is_empty.ensures c.has_qualifiers.ensures c.if-not-has_qualifiers.true c.requires

pub requalified-returns : goal.requalified-returns
requalified-returns t c = node_requalified (trees_of c.args.nodes.now.items) _ _ c.args.id _ _ _ _ c.args.is_const c.args.is_volatile _ _ _
    c.node_at.ensures.kind c.in_ok-kids.ensures.kids c.is_empty.ensures c.has_qualifiers.ensures c.if-not-has_qualifiers.false c.requires
    (c.deref.ensures.value ∙ c.in_ok-ids.ensures.items) c.in_ok-parts.ensures c.requalified_node.ensures

pub all_requalified-loop-index-preserved : goal.all_requalified-loop-index-preserved
all_requalified-loop-index-preserved t c = kid_added c.args.is_const c.args.is_volatile c.args.kind c.args.ids.now c.loop-index.index _ _ _
    (trees_of c.args.nodes.now.items) _ _ _ _ _ c.loop-index.invariant c.requires.within c.loop-index-test.true refl c.is_part-part.ensures
    c.in_ok-kid.ensures c.in_ok-keep.ensures

pub all_requalified-returns : goal.all_requalified-returns
all_requalified-returns t c = kids_added c.args.is_const c.args.is_volatile c.args.kind c.args.ids.now c.loop-index.index _ _ _ c.loop-index.invariant
    c.loop-index-test.false
