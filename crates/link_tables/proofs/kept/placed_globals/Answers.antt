use Rattle.std.proofs.Common.{arith}
use Rattle.link_tables.proofs.HomeSteps.{end_step, end_within, placed_step}
use Rattle.link_tables.proofs.kept.placed_globals.Goals as goal

pub end_behind-number-requires : goal.end_behind-number-requires
end_behind-number-requires c = let w = end_within 0 c.args.found.now c.loop-global.global-index c.global-item.result c.loop-global-test.true c.global-item.is in
    omega (arith, w, c.loop-global.invariant.1, c.requires)

pub loop-global-preserved : goal.loop-global-preserved
loop-global-preserved c = (
  placed_step c.args.found.now c.loop-global.global-index c.global-item.result c.loop-global.defs.items c.push.new.self.items c.loop-global.number
      c.loop-global-test.true c.global-item.is c.loop-global.invariant.1 c.loop-global.invariant.0 c.in_ok-push.ensures.items,
  end_step c.args.found.now c.loop-global.global-index c.global-item.result c.loop-global.number c.end_behind-number.result c.loop-global-test.true
      c.global-item.is c.loop-global.invariant.1 c.end_behind-number.ensures,
)
