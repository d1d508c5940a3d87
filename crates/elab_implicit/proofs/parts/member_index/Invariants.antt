use Rattle.std.proofs.Common.{◌≡◌, map, drop}
use Rattle.cpp_types.specs.Class.{member_of}
use Rattle.elab_entry.specs.elab_rules.Members.{member_index}
use Rattle.elab_implicit.proofs.parts.member_index.Given as goal

abbrev pub invariant-loop-i : goal.invariant-loop-i
invariant-loop-i l = member_index 0 l.name (map member_of l.members) ≡ member_index l.i l.name (map member_of (drop l.i l.members))
