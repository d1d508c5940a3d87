use Rattle.std.proofs.Common.{◌≡◌, drop, map}
use Rattle.std.specs.List.{list_any}
use Rattle.cpp_types.specs.Class.{member_of}
use Rattle.tx_unsafe.specs.Volatile.{is_volatile_member, marked}
use Rattle.tx_unsafe.proofs.classes.has_volatile_member.Given as goal

abbrev pub invariant-loop-member : goal.invariant-loop-member
invariant-loop-member l = list_any (is_volatile_member (marked l.marks)) (map member_of l.members)
    ≡ list_any (is_volatile_member (marked l.marks)) (map member_of (drop l.member-index l.members))
