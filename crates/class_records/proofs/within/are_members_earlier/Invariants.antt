use Rattle.std.proofs.Common.{◌≡◌, drop, map}
use Rattle.cpp_types.specs.Class.{member_of, classes_of}
use Rattle.cpp_types.specs.Order.{members_earlier}
use Rattle.class_records.proofs.within.are_members_earlier.Given as goal

abbrev pub invariant-loop-member : goal.invariant-loop-member
invariant-loop-member l = members_earlier (classes_of l.classes) l.limit (map member_of l.members)
    ≡ members_earlier (classes_of l.classes) l.limit (map member_of (drop l.member-index l.members))
