use Rattle.std.proofs.Common.{refl}
use Rattle.elab_entry.specs.elab_ctx.Ctx.{ctx_of}
use Rattle.elab_implicit.proofs.ObjectParts.{init_made}
use Rattle.elab_implicit.proofs.object.base_init.Goals as goal

pub returns : goal.returns
returns c = init_made _ _ _ _ c.args.init _ _
    (ctx_of c.args.env.now) c.args.at c.args.place _ _ _ c.in_ok-stands.ensures c.in_ok-object.ensures refl c.class_type-ty.ensures c.part_init.ensures
