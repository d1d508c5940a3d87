use Rattle.std.proofs.Common.{◌<◌}
use Rattle.std.proofs.lemmas.List.Elements.{All-map, All-filter}
use Rattle.link_faults.specs.declared.disputes.Claim.{Claim}
use Rattle.link_faults.specs.declared.entries.RankedEntry.{RankedEntry}
use Rattle.link_faults.specs.Claims.{is_definition}
use Rattle.link_faults.specs.Kept.{kept}
use Rattle.link_faults.proofs.KeptDefinitions.{places_of}
use Rattle.link_faults.proofs.definitions.kept_definitions.Goals as goal

pub first_claims-requires : goal.first_claims-requires
first_claims-requires c =
    rw (c.deref.ensures.value, c.in_ok-claims.ensures)
    (All-map (λ (z : Claim). z.symbol < c.args.symbols) kept _
    (All-filter is_definition (λ (e : RankedEntry). e.symbol < c.args.symbols) c.args.entries.now c.requires))

pub returns-clause-places : goal.returns-clause-places
returns-clause-places c = places_of c.args.entries.now c.in_ok-places.places.items
    (rw (c.deref.ensures.value, c.in_ok-claims.ensures) at c.in_ok-places.ensures.first)
