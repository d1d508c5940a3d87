-- What stays of the work at hand.
use Rattle.std.specs.Prelude.{◌≡◌}
use Rattle.elab_rows.specs.elab_ctx.Ctx.{work_of}
use Rattle.elab_rows.specs.elab_ctx.declared.env.Work.{Work as WorkRec}

-- nothing that was made on the way is kept
pub record Unmoved (old new : WorkRec) : Type 0 where
  pub work : work_of new ≡ work_of old
  pub nodes : new.nodes ≡ old.nodes
