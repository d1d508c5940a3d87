use Rattle.std.proofs.Common.{◌+◌, slice_index}
use Rattle.tx_code.specs.Linked.{named_types}
use Rattle.link_parts.specs.Types.{list_of}
use Rattle.link_parts.proofs.PartSteps.{adds_step}
use Rattle.link_parts.proofs.types.mark_code.Goals as goal

pub loop-instr-preserved : goal.loop-instr-preserved
loop-instr-preserved c =
    adds_step named_types (λ n. slice_index c.args.ranks.now (c.args.start + n)) c.args.code.now c.loop-instr.instr-index _
    (list_of c.type_in.result) c.args.marks.now.items c.loop-instr.marks.items c.mark_some.new.marks.items c.loop-instr-test.true c.loop-instr.invariant
    c.mark_some.ensures c.type_in.ensures
