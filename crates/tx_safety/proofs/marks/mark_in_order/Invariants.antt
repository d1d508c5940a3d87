use Rattle.std.proofs.Common.{◌≡◌, ◌≤◌, length, map}
use Rattle.cpp_tree.specs.Arena.{trees_of}
use Rattle.cpp_tree.specs.Units.{func_of}
use Rattle.tx_unsafe.specs.Volatile.{marked}
use Rattle.tx_safety.specs.Marks.{count_marks, SoundMarks}
use Rattle.tx_safety.proofs.marks.mark_in_order.Given as goal

abbrev pub invariant-loop-n : goal.invariant-loop-n
invariant-loop-n l = record {
  long : length l.marks.items ≡ length l.funcs;
  sound : SoundMarks (marked l.volatile) (map (func_of (trees_of l.nodes)) l.funcs) l.marks.items;
  kept : count_marks l.initial.marks.items ≤ count_marks l.marks.items;
}
