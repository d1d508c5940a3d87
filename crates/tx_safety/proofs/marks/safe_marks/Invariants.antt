use Rattle.std.proofs.Common.{◌≡◌, ◌-◌, length, map}
use Rattle.cpp_tree.specs.Arena.{trees_of}
use Rattle.cpp_tree.specs.Units.{func_of}
use Rattle.tx_unsafe.specs.Volatile.{marked}
use Rattle.tx_safety.specs.Marks.{count_marks, SoundMarks}
use Rattle.tx_safety.proofs.marks.safe_marks.Given as goal

abbrev pub invariant-rounds : goal.invariant-rounds
invariant-rounds l = record {
  long : length l.marks.items ≡ length l.funcs;
  sound : SoundMarks (marked l.volatile) (map (func_of (trees_of l.nodes)) l.funcs) l.marks.items;
}

abbrev pub decreases-rounds : goal.decreases-rounds
decreases-rounds l = length l.marks.items - count_marks l.marks.items
