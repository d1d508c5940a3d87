use Rattle.std.proofs.Common.{◌<◌, ◌≤◌, length, rules, ap, sym}
use Rattle.elab_entry.specs.elab_ctx.Ctx.{Traits}
use Rattle.elab_implicit.proofs.MemberSteps.{shown_traits, no_traits_there, marked_traits}
use Rattle.elab_implicit.proofs.given.mark_abstract.Goals as goal

pub returns-in-Some-clause-marked : goal.returns-in-Some-clause-marked
returns-in-Some-clause-marked c =
    let within : c.args.class < length c.args.list.now.items = search rules in
    marked_traits c.args.list.now.items c.args.class c.in-Some.found.now c.args.is_abstract within c.in-Some.ensures.value

pub returns-in-Some-clause-was : goal.returns-in-Some-clause-was
returns-in-Some-clause-was c =
    let within : c.args.class < length c.args.list.now.items = search rules in
    sym (ap (λ (z : Traits). z.is_abstract) (shown_traits c.args.list.now.items c.args.class c.in-Some.found.now within c.in-Some.ensures.value))

pub returns-in-None-clause-was : goal.returns-in-None-clause-was
returns-in-None-clause-was c =
    let past : length c.args.list.now.items ≤ c.args.class = search rules in
    sym (ap (λ (z : Traits). z.is_abstract) (no_traits_there c.args.list.now.items c.args.class past))
