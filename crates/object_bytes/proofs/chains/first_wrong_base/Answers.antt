use Rattle.std.proofs.Common.{sym}
use Rattle.tx_code.specs.Objects.{class_view}
use Rattle.object_bytes.specs.Spelling.{class_bytes}
use Rattle.object_bytes.proofs.Positions.{dropped, all_dropped, size_more, base_more, base_none}
use Rattle.object_bytes.proofs.chains.first_wrong_base.Goals as goal

pub loop-class-preserved : goal.loop-class-preserved
loop-class-preserved c =
    let d = dropped class_view _ _ _ c.loop-class-test.true c.class-item.is in (
      rw c.class_size-at.ensures (base_more _ _ _ _ (class_view c.class-item.result) _ d (sym c.if-is_wrong.ensures.wrong) c.loop-class.invariant.0),
      rw c.class_size-at.ensures (size_more class_bytes _ _ (class_view c.class-item.result) _ _ d c.loop-class.invariant.1),
      c.is_wrong.ensures.known,
    )

pub returns : goal.returns
returns c = base_none _ _ _ _ (all_dropped class_view _ _ c.loop-class-test.false) c.loop-class.invariant.0
