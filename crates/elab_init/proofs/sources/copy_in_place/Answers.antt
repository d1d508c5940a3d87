use Rattle.std.proofs.Common.{◌∙◌}
use Rattle.elab_conv.proofs.elab_ctx.Looks.{grows_trans, at_grown}
use Rattle.elab_conv.proofs.elab_ctx.Making.{last_adds}
use Rattle.elab_init.proofs.Wholes.{two_made}
use Rattle.elab_init.proofs.sources.copy_in_place.Goals as goal

pub returns : goal.returns
returns c = last_adds _ _ _ _ _ _ (grows_trans c.in_ok-source.ensures.grows c.in_ok-parts.ensures.grows)
    (two_made _ _ _ _ _ _ _ _ c.in_ok-ty.ensures (at_grown _ _ _ c.in_ok-parts.ensures.grows c.in_ok-source.ensures.within
    ∙ c.in_ok-source.ensures.is) c.in_ok-parts.ensures.is) c.add_binary.ensures.tree
