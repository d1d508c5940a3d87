use Rattle.std.proofs.Common.{◌≡◌, ◌++◌, drop, map}
use Rattle.cpp_types.specs.Class.{classes_of, member_of}
use Rattle.elab_init.specs.Parts.{part_of, placed}
use Rattle.elab_init.proofs.class_parts.add_members.Given as goal

abbrev pub invariant-loop-member : goal.invariant-loop-member
invariant-loop-member l = map part_of l.parts.items ++ placed (classes_of l.env.classes.items) l.end (map member_of (drop l.member-index l.members))
    ≡ map part_of l.fn.parts.items ++ placed (classes_of l.env.classes.items) l.start (map member_of l.members)
