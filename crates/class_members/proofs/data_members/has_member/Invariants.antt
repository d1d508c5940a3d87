use Rattle.std.proofs.Common.{◌≡◌, drop, map}
use Rattle.cpp_types.specs.Class.{member_of}
use Rattle.elab_init.specs.elab_rules.Classes.{has_member}
use Rattle.class_members.proofs.data_members.has_member.Given as goal

abbrev pub invariant-loop-member : goal.invariant-loop-member
invariant-loop-member l = has_member l.name (map member_of l.members) ≡ has_member l.name (map member_of (drop l.member-index l.members))
