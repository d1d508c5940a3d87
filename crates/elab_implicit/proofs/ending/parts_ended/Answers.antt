use Rattle.std.proofs.Common.{◌++◌, ◌∙◌, ap}
use Rattle.elab_entry.specs.elab_ctx.Ctx.{ctx_of}
use Rattle.elab_implicit.proofs.Deferring.{parts_all}
use Rattle.elab_implicit.proofs.ending.parts_ended.Goals as goal

pub returns : goal.returns
returns c = parts_all _ _ _ _ (ctx_of c.args.env.now) c.args.at c.args.class _ _ _ _ _ c.in_ok-list.ensures c.in_ok-base.ensures
    (c.in_ok-keep_all.ensures ∙ ap (λ z. c.in_ok-list.list.items ++ z) c.deref.ensures.value) c.in_ok-members.ensures
    (c.in_ok-keep_all-2.ensures ∙ ap (λ z. c.keep_all.new.list.items ++ z) c.deref-2.ensures.value)
