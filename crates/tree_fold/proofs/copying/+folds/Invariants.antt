use Rattle.std.proofs.Common.{◌+◌, ◌*◌, ℕ, Bool, drop}
use Rattle.cpp_tree.specs.Arena.{trees_of, trees_at}
use Rattle.tree_fold.specs.Folding.{all_folded}
use Rattle.tree_fold.specs.Sights.{AreSights, Adding}
use Rattle.tree_forests.specs.Copies.{OwnForest}
use Rattle.tree_fold.proofs.copying.+folds.Given as goal

abbrev pub decreases-fold_tree : goal.decreases-fold_tree
decreases-fold_tree l = l.id.0 * 4 + 3

abbrev pub decreases-fold_rest : goal.decreases-fold_rest
decreases-fold_rest l = l.id.0 * 4 + 2

abbrev pub decreases-fold_node : goal.decreases-fold_node
decreases-fold_node l = l.id.0 * 4 + 1

abbrev pub decreases-fold_all : goal.decreases-fold_all
decreases-fold_all l = l.parent.0 * 4

-- the folded trees of the kids that are left are still to be added
abbrev pub invariant-fold_all-loop-id : goal.invariant-fold_all-loop-id
invariant-fold_all-loop-id l = record {
  trees : (volatile : ℕ → Bool) → AreSights volatile (trees_of l.from) l.sights
      → Adding (trees_of l.fn.nodes.items) (trees_of l.nodes.items) l.list.items (all_folded volatile (trees_at (trees_of l.from) (drop l.id-index l.ids)))
      (all_folded volatile (trees_at (trees_of l.from) l.ids));
  own : OwnForest l.fn.nodes.items l.nodes.items l.list.items;
}
