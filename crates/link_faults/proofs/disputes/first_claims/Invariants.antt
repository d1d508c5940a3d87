use Rattle.std.proofs.Common.{◌≡◌, take, length}
use Rattle.link_faults.specs.Disputes.{AreFirst}
use Rattle.link_faults.proofs.disputes.first_claims.Given as goal

abbrev pub invariant-loop-claim : goal.invariant-loop-claim
invariant-loop-claim l = AreFirst (take l.claim-index l.claims) l.first.items × (length l.first.items ≡ l.symbols)
