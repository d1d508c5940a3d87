use Rattle.std.proofs.Common.{◌∙◌, sym}
use Rattle.elab_ctx.proofs.lookups.extent.Goals as goal

pub measured-requires : goal.measured-requires
measured-requires c = sym c.is_sized.ensures ∙ c.if-not-is_sized.false
