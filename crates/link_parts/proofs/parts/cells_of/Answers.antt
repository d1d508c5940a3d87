use Rattle.std.proofs.Common.{arith}
use Rattle.link_tables.proofs.HomeSteps.{end_step, end_within}
use Rattle.link_parts.proofs.PartSteps.{cells_step}
use Rattle.link_parts.proofs.parts.cells_of.Goals as goal

pub add_cells-requires-clause-place : goal.add_cells-requires-clause-place
add_cells-requires-clause-place c = let w =
    end_within 0 c.args.found.now c.loop-global.global-index c.global-item.result c.loop-global-test.true c.global-item.is in
    omega (arith, w, c.loop-global.invariant.1, c.requires.size)

pub end_behind-place-requires : goal.end_behind-place-requires
end_behind-place-requires c = let w = end_within 0 c.args.found.now c.loop-global.global-index c.global-item.result c.loop-global-test.true c.global-item.is in
    omega (arith, w, c.loop-global.invariant.1, c.requires.size)

pub loop-global-preserved : goal.loop-global-preserved
loop-global-preserved c = (
  cells_step c.args.numbers.now c.args.found.now c.loop-global.global-index c.global-item.result c.loop-global.place c.loop-global.cells.items
      c.add_cells.new.cells.items c.loop-global-test.true c.global-item.is c.loop-global.invariant.0 c.loop-global.invariant.1 c.in_ok-add_cells.ensures,
  end_step c.args.found.now c.loop-global.global-index c.global-item.result c.loop-global.place c.end_behind-place.result c.loop-global-test.true
      c.global-item.is c.loop-global.invariant.1 c.end_behind-place.ensures,
)
