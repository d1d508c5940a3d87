use Rattle.std.proofs.Common.{◌≡◌, take}
use Rattle.cpp_types.specs.Class.{classes_of}
use Rattle.cpp_layout.specs.Measured.{Follows}
use Rattle.cpp_layout.proofs.Nesting.{extents_of}
use Rattle.class_layouts.specs.Kept.{places_from}
use Rattle.class_layouts.proofs.members.with_members.Given as goal

-- the members so far
abbrev pub invariant-loop-member : goal.invariant-loop-member
invariant-loop-member l = record {
  follows : Follows l.fn.start (extents_of (classes_of l.classes) (take l.member-index l.members)) l.cursor;
  offsets : l.offsets.items ≡ places_from l.fn.start.end (extents_of (classes_of l.classes) (take l.member-index l.members));
}
