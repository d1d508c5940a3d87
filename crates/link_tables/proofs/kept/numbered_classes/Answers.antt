use Rattle.std.proofs.Common.{◌≡◌, arith, ◌∙◌}
use Rattle.link_tables.specs.Found.{class_row, class_symbol_of}
use Rattle.link_tables.proofs.HomeSteps.{numbers_step}
use Rattle.link_tables.proofs.kept.numbered_classes.Goals as goal

pub loop-class-preserved : goal.loop-class-preserved
loop-class-preserved c =
    let number : c.len-number.result ≡ c.loop-class.class-index = c.len-number.ensures ∙ c.loop-class.defs.ok.0 ∙ c.loop-class.invariant.1 in (
      numbers_step class_symbol_of class_row c.args.kept.now c.loop-class.class-index c.class-item.result c.loop-class.defs.items c.push.new.self.items
          c.len-number.result c.loop-class-test.true c.class-item.is number c.loop-class.invariant.0 c.in_ok-push.ensures.items,
      omega (arith, c.in_ok-push.ensures.len, c.push.new.self.ok.0, c.loop-class.defs.ok.0, c.loop-class.invariant.1),
    )
