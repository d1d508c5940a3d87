use Rattle.std.proofs.Common.{◌≡◌, drop, map}
use Rattle.std.specs.List.{list_any}
use Rattle.cpp_types.specs.Class.{Member, member_of}
use Rattle.cpp_types.specs.Conversion.{volatile_of}
use Rattle.cpp_types.proofs.copyability.has_volatile_member.Given as goal

abbrev pub invariant-loop-member : goal.invariant-loop-member
invariant-loop-member l = list_any (λ (m : Member). volatile_of m.typ) (map member_of l.members)
    ≡ list_any (λ (m : Member). volatile_of m.typ) (map member_of (drop l.member-index l.members))
