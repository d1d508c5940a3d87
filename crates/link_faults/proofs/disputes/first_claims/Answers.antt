use Rattle.std.proofs.Common.{◌∙◌, take}
use Rattle.link_faults.proofs.KeptDefinitions.{first_step}
use Rattle.link_faults.proofs.disputes.first_claims.Goals as goal

pub loop-claim-preserved : goal.loop-claim-preserved
loop-claim-preserved c = (
  first_step c.args.claims.now c.loop-claim.claim-index _ c.note.new.first.items c.loop-claim-test.true
      (c.note.ensures.first (take c.loop-claim.claim-index c.args.claims.now) c.loop-claim.invariant.0),
  c.note.ensures.length ∙ c.loop-claim.invariant.1,
)
