use Rattle.std.proofs.Common.{◌∙◌, map}
use Rattle.link_tables.specs.Found.{class_row, class_symbol_of}
use Rattle.link_tables.proofs.HomeSteps.{kept_class_step, seen_step}
use Rattle.link_tables.proofs.kept.kept_classes.Goals as goal

pub loop-class-preserved : goal.loop-class-preserved
loop-class-preserved c = (
  kept_class_step c.args.found.now c.loop-class.class-index c.class-item.result _ _ c.is_new-new.result c.loop-class-test.true c.class-item.is
      c.loop-class.invariant.0 (c.is_new-new.ensures.new (map class_symbol_of (map class_row c.loop-class.kept.items)) c.loop-class.invariant.1)
      c.in_ok-keep_class.ensures,
  seen_step class_symbol_of _ _ (class_row c.class-item.result) c.is_new-new.result c.loop-class.seen.items c.is_new-new.new.seen.items
      (c.is_new-new.ensures.noted (map class_symbol_of
      (map class_row c.loop-class.kept.items)) c.loop-class.invariant.1) c.is_new-new.ensures.left c.loop-class.invariant.1 c.in_ok-keep_class.ensures,
  c.is_new-new.ensures.length ∙ c.loop-class.invariant.2,
)
