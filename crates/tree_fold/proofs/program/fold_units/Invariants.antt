use Rattle.std.proofs.Common.{◌≡◌, length, map}
use Rattle.cpp_tree.specs.Units.{unit_of}
use Rattle.tx_unsafe.specs.Volatile.{marked}
use Rattle.tree_fold.specs.Programs.{folded_unit}
use Rattle.tree_fold.specs.Bodies.{ReadableFrom, units_folded}
use Rattle.tree_fold.specs.Forests.{ForestsUpTo}
use Rattle.tree_fold.proofs.program.fold_units.Given as goal

abbrev pub invariant-loop-i : goal.invariant-loop-i
invariant-loop-i l = record {
  long : length l.units.items ≡ length l.initial.units.items;
  readable : ReadableFrom l.i l.units.items;
  folded : units_folded (marked l.volatile) l.i l.units.items ≡ map (folded_unit (marked l.volatile)) (map unit_of l.initial.units.items);
  own : ForestsUpTo l.i l.units.items;
}
