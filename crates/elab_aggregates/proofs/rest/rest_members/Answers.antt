use Rattle.std.proofs.Common.{◌∙◌, ap, slice_get}
use Rattle.elab_make.specs.cpp_types.Class.{classes_of}
use Rattle.elab_make.specs.cpp_types.Typ.{typ_of}
use Rattle.elab_make.specs.elab_ctx.Ctx.{ctx_of}
use Rattle.elab_make.specs.elab_rules.Names.{members_in}
use Rattle.elab_aggregates.proofs.Aggregated.{members_same}
use Rattle.elab_aggregates.proofs.rest.rest_members.Goals as goal

pub returns : goal.returns
returns c = members_same (ctx_of c.args.env.now) _ _ c.args.at _ (typ_of c.args.whole.now) c.args.class c.args.from c.members_at-members.result.now _ _ _ _
    (c.members_at-members.ensures ∙ ap (λ z. members_in (slice_get (classes_of z) c.args.class)) c.deref.ensures.value) c.members_from.ensures
