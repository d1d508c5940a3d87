use Rattle.std.proofs.Common.{◌≡◌, drop, map}
use Rattle.std.specs.List.{list_all}
use Rattle.cpp_types.specs.Class.{member_of}
use Rattle.elab_init.specs.elab_ctx.Ctx.{ctx_of}
use Rattle.class_specials.specs.Tests.{member_passes}
use Rattle.class_specials.proofs.part_tests.all_pass.Given as goal

abbrev pub invariant-loop-member : goal.invariant-loop-member
invariant-loop-member l = list_all (member_passes l.what (ctx_of l.env)) (map member_of l.members)
    ≡ list_all (member_passes l.what (ctx_of l.env)) (map member_of (drop l.member-index l.members))
