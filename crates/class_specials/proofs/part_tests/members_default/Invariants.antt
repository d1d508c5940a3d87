use Rattle.std.proofs.Common.{◌≡◌, drop, map}
use Rattle.cpp_types.specs.Class.{member_of}
use Rattle.elab_init.specs.elab_ctx.Ctx.{ctx_of}
use Rattle.elab_init.specs.elab_rules.Classes.{members_default}
use Rattle.class_specials.proofs.part_tests.members_default.Given as goal

abbrev pub invariant-loop-i : goal.invariant-loop-i
invariant-loop-i l = members_default (ctx_of l.env) l.initialised 0 (map member_of l.members)
    ≡ members_default (ctx_of l.env) l.initialised l.i (map member_of (drop l.i l.members))
