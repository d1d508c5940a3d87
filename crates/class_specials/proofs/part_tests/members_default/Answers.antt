use Rattle.std.proofs.Common.{◌≡◌, rules, true}
use Rattle.cpp_types.specs.Class.{member_of}
use Rattle.elab_init.specs.elab_ctx.Ctx.{ctx_of}
use Rattle.elab_init.specs.elab_rules.Classes.{members_default}
use Rattle.std.proofs.Common.{map}
use Rattle.class_specials.proofs.Defaults.{default_more}
use Rattle.class_specials.proofs.part_tests.members_default.Goals as goal

pub loop-i-preserved : goal.loop-i-preserved
loop-i-preserved c =
    let passed : c.in_ok-member_defaults.field-0 ≡ true = search rules in
    default_more (ctx_of c.args.env.now) c.args.initialised.now c.args.members.now c.loop-i.i c.index-members-i.result c.in_ok-member_defaults.field-0
    (members_default (ctx_of c.args.env.now) c.args.initialised.now 0
    (map member_of c.args.members.now)) c.loop-i-test.true c.index-members-i.is c.in_ok-member_defaults.ensures passed c.loop-i.invariant
