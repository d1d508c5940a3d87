use Rattle.std.proofs.Common.{◌+◌, ◌*◌, take}
use Rattle.cpp_types.specs.Typ.{shape_form}
use Rattle.cpp_types.specs.Class.{classes_of, held_form}
use Rattle.cpp_layout.specs.Measured.{Follows}
use Rattle.cpp_layout.proofs.Nesting.{depth, held_depth, extents_of}
use Rattle.cpp_layout.proofs.measures.+measure.Given as goal

abbrev pub decreases-measured : goal.decreases-measured
decreases-measured l = held_depth (classes_of l.classes.now) (held_form (shape_form l.shape.now))

abbrev pub decreases-base_cursor : goal.decreases-base_cursor
decreases-base_cursor l = held_depth (classes_of l.classes.now) l.base

abbrev pub decreases-class_measured : goal.decreases-class_measured
decreases-class_measured l = 4 * depth (classes_of l.classes.now) l.class + 3

abbrev pub decreases-with_members : goal.decreases-with_members
decreases-with_members l = 4 * l.number + 2

-- the members so far
abbrev pub invariant-with_members-loop-member : goal.invariant-with_members-loop-member
invariant-with_members-loop-member l = Follows l.fn.start (extents_of (classes_of l.classes) (take l.member-index l.members)) l.cursor
