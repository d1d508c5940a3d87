use Rattle.std.proofs.Common.{◌≡◌, ◌≤◌, ◌+◌, ◌*◌, map, take}
use Rattle.cpp_types.specs.Typ.{shape_form}
use Rattle.cpp_types.specs.Class.{classes_of, member_of, held_form}
use Rattle.cpp_layout.specs.Layout.{greatest_align}
use Rattle.cpp_layout.specs.Measured.{member_extents}
use Rattle.cpp_layout.proofs.Nesting.{depth, held_depth}
use Rattle.cpp_layout.proofs.alignments.+align.Given as goal

abbrev pub decreases-align_of : goal.decreases-align_of
decreases-align_of l = held_depth (classes_of l.classes.now) (held_form (shape_form l.shape.now))

abbrev pub decreases-base_align : goal.decreases-base_align
decreases-base_align l = held_depth (classes_of l.classes.now) l.base

abbrev pub decreases-class_align : goal.decreases-class_align
decreases-class_align l = 4 * depth (classes_of l.classes.now) l.class + 3

abbrev pub decreases-members_align : goal.decreases-members_align
decreases-members_align l = 4 * l.number + 2

abbrev pub invariant-members_align-loop-member : goal.invariant-members_align-loop-member
invariant-members_align-loop-member l = record {
  value : l.greatest ≡ greatest_align (member_extents (classes_of l.classes) (map member_of (take l.member-index l.members)));
  low : 1 ≤ l.greatest;
  high : l.greatest ≤ 8;
}
