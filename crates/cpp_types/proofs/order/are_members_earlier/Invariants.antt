use Rattle.std.proofs.Common.{◌≡◌, drop, map}
use Rattle.cpp_types.specs.Class.{member_of, classes_of}
use Rattle.cpp_types.specs.Order.{members_earlier}
use Rattle.cpp_types.proofs.order.are_members_earlier.Given as goal

abbrev pub invariant-loop-member : goal.invariant-loop-member
invariant-loop-member l = members_earlier (classes_of l.classes) l.limit (map member_of l.members)
    ≡ members_earlier (classes_of l.classes) l.limit (map member_of (drop l.member-index l.members))
