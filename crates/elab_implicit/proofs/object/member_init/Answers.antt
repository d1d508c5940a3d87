use Rattle.std.proofs.Common.{ℕ, refl, ap}
use Rattle.cpp_types.specs.Typ.{typ_of}
use Rattle.elab_entry.specs.elab_ctx.Ctx.{ctx_of}
use Rattle.elab_entry.specs.elab_rules.Values.{part_at}
use Rattle.elab_entry.specs.elab_rules.Names.{this_pointer}
use Rattle.elab_entry.specs.elab_rules.Members.{own_this}
use Rattle.elab_implicit.proofs.ObjectParts.{init_made}
use Rattle.elab_implicit.proofs.object.member_init.Goals as goal

pub returns : goal.returns
returns c = init_made _ _ _ _ c.args.init _ _ (ctx_of c.args.env.now) c.args.at c.args.place (typ_of c.args.ty.now)
    (typ_of c.args.ty.now) _ c.in_ok-stands.ensures c.in_ok-object.ensures
    (ap (λ (z : ℕ). part_at z (typ_of c.args.ty.now) c.args.place
    (this_pointer c.args.place (own_this c.args.class))) c.in_ok-offset.ensures) refl c.part_init.ensures
