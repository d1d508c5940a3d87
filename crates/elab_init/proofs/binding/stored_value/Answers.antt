use Rattle.std.proofs.Common.{◌∙◌, ap}
use Rattle.cpp_types.specs.Typ.{typ_of}
use Rattle.elab_conv.proofs.elab_ctx.Looks.{grows_trans}
use Rattle.elab_conv.proofs.elab_ctx.Making.{last_adds}
use Rattle.elab_conv.specs.elab_rules.Values.{stored, stepped}
use Rattle.elab_init.proofs.binding.stored_value.Goals as goal

pub returns : goal.returns
returns c = last_adds _ _ _ _ _ _ (grows_trans c.in_ok-read.ensures.grows c.in_ok-value.ensures.grows)
    (ap (stored c.args.at (typ_of c.args.bare.now)) (c.in_ok-value.ensures.is ∙ ap
    (stepped c.args.at c.args.step (typ_of c.args.ty.now)) c.in_ok-read.ensures.is)) c.stored.ensures
