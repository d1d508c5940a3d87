use Rattle.tx_code.specs.Images.{image_func_view}
use Rattle.link_tables.specs.Found.{func_row}
use Rattle.link_parts.specs.Parts.{func_told}
use Rattle.link_parts.proofs.PartSteps.{told_step}
use Rattle.link_parts.proofs.parts.funcs_of.Goals as goal

pub loop-func-preserved : goal.loop-func-preserved
loop-func-preserved c = told_step image_func_view (func_told c.args.numbers.now) func_row c.args.kept.now c.loop-func.func-index c.func-item.result
    c.in_ok-copy.copy c.loop-func.funcs.items c.push.new.self.items c.loop-func-test.true c.func-item.is c.loop-func.invariant c.in_ok-copy.ensures
    c.in_ok-push.ensures.items
