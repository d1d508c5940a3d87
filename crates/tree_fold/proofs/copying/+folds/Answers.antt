use Rattle.std.proofs.Common.{length}
use Rattle.cpp_tree.specs.Arena.{trees_of}
use Rattle.tree_fold.proofs.Growing.{adding_first}
use Rattle.tree_fold.proofs.Copied.{word_copied, rest_copied, kid_copied, own_copied, node_copied, kid_added, kids_added}
use Rattle.tree_forests.proofs.Behind.{forest_first, forest_more}
use Rattle.tree_fold.proofs.copying.+folds.Goals as goal

pub fold_tree-returns-in-Some-clause-tree : goal.fold_tree-returns-in-Some-clause-tree
fold_tree-returns-in-Some-clause-tree t c = λ v s. word_copied v (trees_of c.args.from.now) _ _ c.args.sights.now
    (length c.args.from.now) c.args.id c.node_at-node.result.now _ _ s c.requires.many c.node_at-node.ensures.below c.node_at-node.ensures.tree
    c.in-Some.ensures c.add_literal.ensures.tree

pub fold_tree-returns-in-None-clause-tree : goal.fold_tree-returns-in-None-clause-tree
fold_tree-returns-in-None-clause-tree t c = λ v s. rest_copied v (trees_of c.args.from.now) _ _ c.args.sights.now
    (length c.args.from.now) c.args.id c.node_at-node.result.now _ s c.requires.many c.node_at-node.ensures.below c.node_at-node.ensures.tree c.in-None.ensures
    (c.fold_rest.ensures.tree v s)

pub fold_rest-returns-in-Some-clause-tree : goal.fold_rest-returns-in-Some-clause-tree
fold_rest-returns-in-Some-clause-tree t c = λ v s. kid_copied v (trees_of c.args.from.now) _ _ c.args.sights.now
    (length c.args.from.now) _ c.args.node.now _ _ s c.requires.many c.requires.below c.in-Some.ensures.is (c.fold_tree.ensures.tree v s)

pub fold_rest-returns-in-None-clause-tree : goal.fold_rest-returns-in-None-clause-tree
fold_rest-returns-in-None-clause-tree t c = λ v s. own_copied v (trees_of c.args.from.now) _ _ c.args.sights.now
    (length c.args.from.now) c.args.node.now _ _ s c.requires.many c.requires.below c.in-None.ensures.is (c.fold_node.ensures.tree v s)

pub fold_node-returns-clause-tree : goal.fold_node-returns-clause-tree
fold_node-returns-clause-tree t c = λ v s. node_copied v (trees_of c.args.from.now) _ _ _ c.args.node.now c.as_slice-ids.result.now _ _
    c.as_slice-ids.ensures.value (c.in_ok-kids.ensures.trees v s) c.add_copy.ensures.tree

pub fold_all-loop-id-init : goal.fold_all-loop-id-init
fold_all-loop-id-init t c = record {
  trees = λ v s. adding_first _ _ _ c.new-list.ensures.items;
  own = forest_first c.args.nodes.now.items c.new-list.result.items c.new-list.ensures.items;
}

pub fold_all-loop-id-preserved : goal.fold_all-loop-id-preserved
fold_all-loop-id-preserved t c = record {
  trees = λ v s. kid_added v (trees_of c.args.from.now) c.args.ids.now c.loop-id.id-index (record { 0 = 0 }) _ _ _ _ _ _
      (c.loop-id.invariant.trees v s) c.loop-id-test.true (c.in_ok-kid.ensures.tree v s) c.in_ok-keep.ensures;
  own = forest_more c.args.nodes.now.items c.loop-id.nodes.items _ c.loop-id.list.items _ _ c.loop-id.invariant.own c.in_ok-kid.ensures.own
      c.in_ok-keep.ensures;
}

pub fold_all-returns-clause-trees : goal.fold_all-returns-clause-trees
fold_all-returns-clause-trees t c = λ v s. kids_added v (trees_of c.args.from.now) c.args.ids.now c.loop-id.id-index _ _ _
    (c.loop-id.invariant.trees v s) c.loop-id-test.false

pub fold_node-returns-clause-own : goal.fold_node-returns-clause-own
fold_node-returns-clause-own t c = c.add_copy.ensures.own c.args.nodes.now.items c.in_ok-kids.ensures.own
