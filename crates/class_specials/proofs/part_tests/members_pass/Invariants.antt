use Rattle.std.proofs.Common.{◌≡◌, drop, map}
use Rattle.std.specs.List.{list_all}
use Rattle.cpp_types.specs.Class.{Member, member_of, held}
use Rattle.elab_init.specs.elab_ctx.Ctx.{ctx_of}
use Rattle.elab_init.specs.elab_rules.Classes.{class_test}
use Rattle.class_specials.specs.Tests.{passes}
use Rattle.class_specials.proofs.part_tests.members_pass.Given as goal

abbrev pub invariant-loop-member : goal.invariant-loop-member
invariant-loop-member l = list_all (λ (m : Member). class_test (passes l.what (ctx_of l.env)) (held m.typ)) (map member_of l.members)
    ≡ list_all (λ (m : Member). class_test (passes l.what (ctx_of l.env)) (held m.typ)) (map member_of (drop l.member-index l.members))
