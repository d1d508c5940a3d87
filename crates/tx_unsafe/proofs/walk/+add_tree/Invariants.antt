use Rattle.std.proofs.Common.{◌≡◌, ◌++◌, fold, drop}
use Rattle.cpp_tree.specs.Arena.{trees_of, trees_at}
use Rattle.tx_unsafe.specs.Volatile.{marked}
use Rattle.tx_unsafe.specs.Unsafe.{own_in_all, calls_in_all}
use Rattle.tx_unsafe.specs.First.{sooner}
use Rattle.tx_unsafe.proofs.walk.+add_tree.Given as goal

abbrev pub decreases-add_tree : goal.decreases-add_tree
decreases-add_tree l = l.id.0

-- the trees of the kids that are left give the rest of what is found
abbrev pub invariant-loop-kid : goal.invariant-loop-kid
invariant-loop-kid l = record {
  first : fold sooner l.contents.first (own_in_all (marked l.volatile) l.deeper (trees_at (trees_of l.nodes) (drop l.kid-index l.kid-items)))
      ≡ fold sooner l.initial.contents.first (own_in_all (marked l.volatile) l.deeper (trees_at (trees_of l.nodes) l.kid-items));
  calls : l.contents.calls.items ++ calls_in_all l.deeper (trees_at (trees_of l.nodes) (drop l.kid-index l.kid-items))
      ≡ l.initial.contents.calls.items ++ calls_in_all l.deeper (trees_at (trees_of l.nodes) l.kid-items);
}
