use Rattle.std.proofs.Common.{◌+◌, slice_index}
use Rattle.tx_code.specs.WellFormed.{named_by_row}
use Rattle.link_parts.specs.Types.{list_of}
use Rattle.link_faults.proofs.KeptDefinitions.{whole}
use Rattle.link_parts.proofs.PartSteps.{adds_step}
use Rattle.link_parts.proofs.types.mark_rows.Goals as goal

pub loop-row-preserved : goal.loop-row-preserved
loop-row-preserved c =
    adds_step named_by_row (λ n. slice_index c.args.ranks.now (c.args.start + n)) c.args.rows.now c.loop-row.row-index _
    (list_of c.type_of.result) c.args.marks.now.items c.loop-row.marks.items c.mark_some.new.marks.items c.loop-row-test.true c.loop-row.invariant
    c.mark_some.ensures c.type_of.ensures

pub returns : goal.returns
returns c = rw (whole c.args.rows.now c.loop-row.row-index c.loop-row-test.false) at c.loop-row.invariant
