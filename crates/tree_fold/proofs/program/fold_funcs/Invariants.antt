use Rattle.std.proofs.Common.{◌≡◌, ℕ, Bool, length, take}
use Rattle.cpp_tree.specs.Arena.{trees_of}
use Rattle.tree_fold.specs.Sights.{AreSights}
use Rattle.tree_fold.specs.Bodies.{HaveRootsFrom, FoldedUpTo}
use Rattle.tree_fold.specs.Forests.{body_roots}
use Rattle.tree_forests.specs.Copies.{OwnForest}
use Rattle.tree_fold.proofs.program.fold_funcs.Given as goal

abbrev pub invariant-loop-i : goal.invariant-loop-i
invariant-loop-i l = record {
  long : length l.funcs.items ≡ length l.initial.funcs.items;
  roots : HaveRootsFrom l.i l.from l.funcs.items;
  folded : (volatile : ℕ → Bool) → AreSights volatile (trees_of l.from) l.sights
      → FoldedUpTo volatile (trees_of l.from) (trees_of l.nodes.items) l.i l.initial.funcs.items l.funcs.items;
  own : OwnForest l.initial.nodes.items l.nodes.items (body_roots (take l.i l.funcs.items));
}
