use Rattle.std.proofs.Common.{◌++◌, ◌∙◌, ap}
use Rattle.elab_entry.specs.elab_ctx.Ctx.{Ctx, ctx_of}
use Rattle.elab_implicit.proofs.PartLists.{given_more, more_same}
use Rattle.elab_implicit.proofs.building.first_parts.Goals as goal

pub returns-clause-made : goal.returns-clause-made
returns-clause-made c = given_more _ _ _ _ _ _ _ _ c.in_ok-list.ensures.made
    (more_same _ _ _ c.args.at c.args.class _ (ctx_of c.args.env.now).classes (ap (λ (z : Ctx). z.classes) c.in_ok-list.ensures.ctx) c.in_ok-more.ensures)
    (c.in_ok-keep_all.ensures ∙ ap (λ z. c.in_ok-list.list.items ++ z) c.deref.ensures.value)
