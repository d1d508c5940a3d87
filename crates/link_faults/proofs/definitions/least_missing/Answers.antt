use Rattle.std.proofs.Common.{take, length, nat_eq, ◌&&◌}
use Rattle.std.specs.List.{list_any}
use Rattle.link_faults.specs.declared.entries.RankedEntry.{RankedEntry}
use Rattle.link_faults.specs.Kept.{is_missing_rank}
use Rattle.link_faults.proofs.KeptDefinitions.{whole, symbol_step, place_at}
use Rattle.link_faults.proofs.definitions.least_missing.Goals as goal

pub loop-entry-preserved : goal.loop-entry-preserved
loop-entry-preserved c =
    let within = c.requires.within c.loop-entry.entry-index _ c.loop-entry-test.true in (
      symbol_step (is_missing_rank c.args.entries.now) c.args.entries.now c.loop-entry.entry-index _ c.with_name-least.result c.is_missing-missing.result
          c.loop-entry-test.true
          (c.is_missing-missing.ensures c.args.entries.now
          (place_at c.args.entries.now c.args.kept.now _ c.first_claim.result c.requires.places within c.first_claim.ensures))
          (c.with_name-least.ensures.least (λ k. list_any (λ (e : RankedEntry). nat_eq e.symbol k && is_missing_rank c.args.entries.now e)
          (take c.loop-entry.entry-index c.args.entries.now)) c.loop-entry.invariant.0),
      c.with_name-least.ensures.within (length c.args.kept.now) (λ _. within) c.loop-entry.invariant.1,
    )

pub returns-clause-least : goal.returns-clause-least
returns-clause-least c = rw (whole c.args.entries.now c.loop-entry.entry-index c.loop-entry-test.false) at c.loop-entry.invariant.0
