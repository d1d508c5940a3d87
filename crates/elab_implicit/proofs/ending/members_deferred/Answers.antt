use Rattle.std.proofs.Common.{◌<◌, ◌≤◌, ◌++◌, ◌∙◌, ap, arith, length, slice_get}
use Rattle.cpp_types.specs.Class.{classes_of}
use Rattle.elab_entry.specs.elab_ctx.Ctx.{ctx_of}
use Rattle.elab_entry.specs.elab_rules.Names.{members_in}
use Rattle.elab_implicit.proofs.Deferring.{member_added, members_added}
use Rattle.elab_implicit.proofs.ending.members_deferred.Goals as goal

pub loop-member-preserved : goal.loop-member-preserved
loop-member-preserved c =
    let test = c.loop-member-test.true in
    let size = c.in_ok-count.ensures in
    let low : c.loop-member.member < length (members_in (slice_get (classes_of c.args.env.now.classes.items) c.args.class)) = omega arith in
    member_added _ _ _ (ctx_of c.args.env.now) c.args.at c.args.class c.loop-member.member
    (members_in (slice_get (classes_of c.args.env.now.classes.items) c.args.class)) _ _ _ c.loop-member.invariant low c.in_ok-more.ensures
    (c.in_ok-keep_all.ensures ∙ ap (λ z. c.loop-member.list.items ++ z) c.deref.ensures.value)

pub returns : goal.returns
returns c =
    let test = c.loop-member-test.false in
    let size = c.in_ok-count.ensures in
    let high : length (members_in (slice_get (classes_of c.args.env.now.classes.items) c.args.class)) ≤ c.loop-member.member = omega arith in
    members_added _ _ (ctx_of c.args.env.now) c.args.at c.args.class c.loop-member.member
    (members_in (slice_get (classes_of c.args.env.now.classes.items) c.args.class)) _ c.loop-member.invariant high
