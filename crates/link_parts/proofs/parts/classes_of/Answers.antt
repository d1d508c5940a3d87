use Rattle.tx_code.specs.Images.{image_class_view}
use Rattle.link_tables.specs.Found.{class_row}
use Rattle.link_parts.specs.Parts.{class_told}
use Rattle.link_parts.proofs.PartSteps.{told_step}
use Rattle.link_parts.proofs.parts.classes_of.Goals as goal

pub loop-class-preserved : goal.loop-class-preserved
loop-class-preserved c = told_step image_class_view (class_told c.args.numbers.now) class_row c.args.kept.now c.loop-class.class-index c.class-item.result
    c.in_ok-copy.copy c.loop-class.classes.items c.push.new.self.items c.loop-class-test.true c.class-item.is c.loop-class.invariant c.in_ok-copy.ensures
    c.in_ok-push.ensures.items
