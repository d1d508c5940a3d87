use Rattle.std.proofs.Common.{◌≡◌, arith, ◌∙◌}
use Rattle.link_tables.specs.Found.{func_row, func_symbol_of}
use Rattle.link_tables.proofs.HomeSteps.{numbers_step}
use Rattle.link_tables.proofs.kept.numbered_funcs.Goals as goal

pub loop-func-preserved : goal.loop-func-preserved
loop-func-preserved c =
    let number : c.len-number.result ≡ c.loop-func.func-index = c.len-number.ensures ∙ c.loop-func.defs.ok.0 ∙ c.loop-func.invariant.1 in (
      numbers_step func_symbol_of func_row c.args.kept.now c.loop-func.func-index c.func-item.result c.loop-func.defs.items c.push.new.self.items
          c.len-number.result c.loop-func-test.true c.func-item.is number c.loop-func.invariant.0 c.in_ok-push.ensures.items,
      omega (arith, c.in_ok-push.ensures.len, c.push.new.self.ok.0, c.loop-func.defs.ok.0, c.loop-func.invariant.1),
    )
