use Rattle.std.proofs.Common.{◌≡◌, length}
use Rattle.cpp_tree.specs.Arena.{trees_of}
use Rattle.tx_unsafe.specs.Volatile.{marked}
use Rattle.tx_safety.specs.Marks.{AreContents}
use Rattle.tx_safety.proofs.marks.all_contents.Given as goal

abbrev pub invariant-loop-func : goal.invariant-loop-func
invariant-loop-func l = record {
  long : length l.all.items ≡ l.func-index;
  each : AreContents (marked l.volatile) (trees_of l.nodes) l.funcs l.all.items;
}
