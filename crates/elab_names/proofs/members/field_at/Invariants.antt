use Rattle.std.proofs.Common.{◌≡◌, map, drop}
use Rattle.elab_conv.specs.cpp_types.Class.{member_of}
use Rattle.elab_conv.specs.elab_rules.Names.{field_from}
use Rattle.elab_names.proofs.members.field_at.Given as goal

abbrev pub invariant-loop-i : goal.invariant-loop-i
invariant-loop-i l = field_from l.class 0 l.name (map member_of l.members) ≡ field_from l.class l.i l.name (map member_of (drop l.i l.members))
