use Rattle.std.proofs.Common.{◌≡◌, ◌<◌, ◌≤◌, ℕ, true, false, length}
use Rattle.cpp_types.specs.Class.{classes_of}
use Rattle.tx_unsafe.specs.ClassMarks.{count_marked, SoundClasses, ClosedClasses}
use Rattle.tx_unsafe.proofs.classes.mark_round.Given as goal

abbrev pub invariant-loop-i : goal.invariant-loop-i
invariant-loop-i l = record {
  long : length l.marks.items ≡ length l.classes;
  sound : SoundClasses (classes_of l.classes) l.marks.items;
  kept : count_marked l.initial.marks.items ≤ count_marked l.marks.items;
  more : l.changed ≡ true → count_marked l.initial.marks.items < count_marked l.marks.items;
  closed : l.changed ≡ false → ClosedClasses (classes_of l.classes) l.marks.items l.i;
}
