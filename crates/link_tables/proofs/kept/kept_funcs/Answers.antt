use Rattle.std.proofs.Common.{◌∙◌, map}
use Rattle.link_tables.specs.Found.{func_row, func_symbol_of}
use Rattle.link_tables.proofs.HomeSteps.{kept_step, seen_step}
use Rattle.link_tables.proofs.kept.kept_funcs.Goals as goal

pub loop-func-preserved : goal.loop-func-preserved
loop-func-preserved c = (
  kept_step c.args.found.now c.loop-func.func-index c.func-item.result _ _ c.is_new-new.result c.loop-func-test.true c.func-item.is c.loop-func.invariant.0
      (c.is_new-new.ensures.new (map func_symbol_of (map func_row c.loop-func.kept.items)) c.loop-func.invariant.1) c.in_ok-keep_func.ensures,
  seen_step func_symbol_of _ _ (func_row c.func-item.result) c.is_new-new.result c.loop-func.seen.items c.is_new-new.new.seen.items
      (c.is_new-new.ensures.noted (map func_symbol_of
      (map func_row c.loop-func.kept.items)) c.loop-func.invariant.1) c.is_new-new.ensures.left c.loop-func.invariant.1 c.in_ok-keep_func.ensures,
  c.is_new-new.ensures.length ∙ c.loop-func.invariant.2,
)
