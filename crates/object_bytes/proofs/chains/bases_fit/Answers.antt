use Rattle.std.proofs.Common.{map, sym, ap, not, ◌∙◌}
use Rattle.tx_code.specs.Objects.{class_view}
use Rattle.object_bytes.proofs.Positions.{dropped, all_dropped, all_more, all_not, all_of_none}
use Rattle.object_bytes.proofs.WholeLaws.{base_is_right, rights_fit}
use Rattle.object_bytes.proofs.chains.bases_fit.Goals as goal

pub returns-then-is_wrong : goal.returns-then-is_wrong
returns-then-is_wrong c =
    let d = dropped class_view _ _ _ c.loop-class-test.true c.class-item.is in
    all_not (base_is_right _) _ _ (class_view c.class-item.result) _ d (ap not (sym c.if-is_wrong.ensures.wrong)) c.loop-class.invariant.0
    ∙ rights_fit (map class_view c.args.classes.now)

pub loop-class-preserved : goal.loop-class-preserved
loop-class-preserved c =
    let d = dropped class_view _ _ _ c.loop-class-test.true c.class-item.is in (
      all_more (base_is_right _) _ _ (class_view c.class-item.result) _ d (ap not (sym c.if-is_wrong.ensures.wrong)) c.loop-class.invariant.0,
      c.is_wrong.ensures.known,
    )

pub returns : goal.returns
returns c = all_of_none (base_is_right _) _ _ (all_dropped class_view _ _ c.loop-class-test.false) c.loop-class.invariant.0
    ∙ rights_fit (map class_view c.args.classes.now)
