use Rattle.std.proofs.Common.{◌≡◌, length}
use Rattle.cpp_tree.specs.Arena.{trees_of}
use Rattle.tx_unsafe.specs.Volatile.{marked}
use Rattle.tree_fold.specs.Sights.{AreSights}
use Rattle.tree_fold.proofs.sights.sights_of.Given as goal

abbrev pub invariant-loop-node : goal.invariant-loop-node
invariant-loop-node l = record {
  many : length l.sights.items ≡ l.node-index;
  shown : AreSights (marked l.volatile) (trees_of l.nodes) l.sights.items;
}
