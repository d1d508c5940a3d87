use Rattle.elab_entry.specs.elab_ctx.Ctx.{ctx_of}
use Rattle.elab_implicit.proofs.PartLists.{default_given}
use Rattle.elab_implicit.proofs.building.base_default.Goals as goal

pub returns-clause-made : goal.returns-clause-made
returns-clause-made c = default_given _ _ _ _ _
    (ctx_of c.args.env.now) _ c.args.at c.args.class c.args.base c.in_ok-init.ensures.made c.in_ok-init.ensures.ctx c.in_ok-made.ensures
