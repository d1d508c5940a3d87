use Rattle.std.proofs.Common.{sym, nat_eq}
use Rattle.link_faults.specs.Disputes.{is_disputed}
use Rattle.link_faults.proofs.FirstClaims.{least_with, least_without, one_symbol}
use Rattle.link_faults.proofs.disputes.with_claim.Goals as goal

pub returns-then-is_clash-clause-least : goal.returns-then-is_clash-clause-least
returns-then-is_clash-clause-least c = λ claims e h.
    least_with claims c.args.claim c.args.first c.lesser.result e (sym c.if-is_clash.ensures)
    (c.lesser.ensures.least (is_disputed claims) (λ k. nat_eq c.args.claim.symbol k) h (one_symbol c.args.claim.symbol))

pub returns-clause-least : goal.returns-clause-least
returns-clause-least c = λ claims e h. least_without claims c.args.claim c.args.first c.args.least e (sym c.if-is_clash.ensures) h
