use Rattle.std.proofs.lemmas.List.Elements.{All-map, All-filter}
use Rattle.link_faults.specs.declared.disputes.Claim.{Claim}
use Rattle.link_faults.specs.declared.entries.RankedEntry.{RankedEntry}
use Rattle.link_faults.specs.Claims.{is_seen, said_type}
use Rattle.link_faults.proofs.claims.least_type_dispute.Goals as goal
use Rattle.std.proofs.Common.{◌<◌}

pub least_dispute-requires : goal.least_dispute-requires
least_dispute-requires c =
    rw (c.deref.ensures.value, c.in_ok-claims.ensures)
    (All-map (λ (z : Claim). z.symbol < c.args.symbols) said_type _
    (All-filter is_seen (λ (e : RankedEntry). e.symbol < c.args.symbols) c.args.entries.now c.requires))
