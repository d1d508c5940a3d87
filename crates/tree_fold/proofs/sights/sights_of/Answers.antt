use Rattle.std.proofs.Common.{ap, length, ◌∙◌, List}
use Rattle.cpp_tree.specs.Arena.{trees_of}
use Rattle.tx_unsafe.specs.Volatile.{marked}
use Rattle.tree_fold.specs.declared.sights.Sight.{Sight}
use Rattle.tree_fold.specs.Sights.{sight_seen}
use Rattle.tree_fold.proofs.Seeing.{no_sights, next_sights, next_below, next_many}
use Rattle.tree_fold.proofs.sights.sights_of.Goals as goal

pub loop-node-init : goal.loop-node-init
loop-node-init c = record {
  many = ap length c.new-sights.ensures.items;
  shown = no_sights (marked c.args.volatile.now) (trees_of c.args.nodes.now) _ c.new-sights.ensures.items;
}

pub folded_sight-next-requires : goal.folded_sight-next-requires
folded_sight-next-requires c = record {
  below = next_below c.args.nodes.now c.as_slice-seen.result.now c.loop-node.node-index c.node-item.result c.requires
      (ap length c.as_slice-seen.ensures.value ∙ c.loop-node.invariant.many) c.loop-node-test.true c.node-item.is;
}

pub loop-node-preserved : goal.loop-node-preserved
loop-node-preserved c = record {
  many = next_many c.loop-node.sights.items _ _ c.loop-node.node-index c.loop-node.invariant.many c.in_ok-keep_sight.ensures;
  shown = next_sights (marked c.args.volatile.now) c.args.nodes.now c.loop-node.sights.items _ _ c.loop-node.node-index c.node-item.result c.requires
      c.loop-node.invariant.shown c.loop-node.invariant.many c.loop-node-test.true c.node-item.is
      (c.folded_sight-next.ensures ∙ ap (λ (z : List Sight). sight_seen (marked c.args.volatile.now) z c.node-item.result) c.as_slice-seen.ensures.value)
      c.in_ok-keep_sight.ensures;
}
