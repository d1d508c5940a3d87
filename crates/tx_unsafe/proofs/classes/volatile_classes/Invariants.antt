use Rattle.std.proofs.Common.{◌≡◌, ◌-◌, length}
use Rattle.cpp_types.specs.Class.{classes_of}
use Rattle.tx_unsafe.specs.ClassMarks.{count_marked, SoundClasses}
use Rattle.tx_unsafe.proofs.classes.volatile_classes.Given as goal

abbrev pub invariant-rounds : goal.invariant-rounds
invariant-rounds l = record {
  long : length l.marks.items ≡ length l.classes;
  sound : SoundClasses (classes_of l.classes) l.marks.items;
}

abbrev pub decreases-rounds : goal.decreases-rounds
decreases-rounds l = length l.marks.items - count_marked l.marks.items
