use Rattle.std.proofs.Common.{◌≡◌, ◌<◌, take, length, IfSome}
use Rattle.link_faults.specs.Disputes.{IsLeast, is_disputed, AreFirst}
use Rattle.link_faults.proofs.disputes.least_dispute.Given as goal

abbrev pub invariant-loop-claim : goal.invariant-loop-claim
invariant-loop-claim l = AreFirst (take l.claim-index l.claims) l.first.items × (length l.first.items ≡ l.symbols)
    × IsLeast (is_disputed (take l.claim-index l.claims)) l.least × IfSome l.least (λ k. k < l.symbols)
