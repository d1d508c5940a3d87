use Rattle.std.proofs.Common.{◌≡◌, drop, map}
use Rattle.cpp_types.specs.Class.{member_of}
use Rattle.cpp_types.specs.Order.{members_below}
use Rattle.class_records.proofs.within.are_members_below.Given as goal

abbrev pub invariant-loop-member : goal.invariant-loop-member
invariant-loop-member l = members_below l.limit (map member_of l.members) ≡ members_below l.limit (map member_of (drop l.member-index l.members))
