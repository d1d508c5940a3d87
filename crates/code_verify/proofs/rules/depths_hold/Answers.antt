use Rattle.std.proofs.Common.{◌<◌, ◌-◌, length, sym, ◌∙◌, arith}
use Rattle.code_verify.specs.Rules.{depth_test}
use Rattle.code_verify.proofs.Ranges.{range_on, range_stops, no_depths}
use Rattle.code_verify.proofs.rules.depths_hold.Goals as goal

pub loop-index-preserved : goal.loop-index-preserved
loop-index-preserved c =
    let h : c.loop-index.index < c.args.row.to = omega arith in
    let l : c.loop-index.index < length c.args.slots.now = omega (arith, c.requires) in
    c.loop-index.invariant ∙ range_on
    (depth_test c.args.code.now c.args.row) c.args.nests.now c.args.slots.now c.loop-index.index c.args.row.to _ h l c.if-not-depth_holds.ensures

pub returns-then-not-depth_holds : goal.returns-then-not-depth_holds
returns-then-not-depth_holds c =
    let h : c.loop-index.index < c.args.row.to = omega arith in
    let l : c.loop-index.index < length c.args.slots.now = omega (arith, c.requires) in
    sym (c.loop-index.invariant ∙ range_stops
    (depth_test c.args.code.now c.args.row) c.args.nests.now c.args.slots.now c.loop-index.index c.args.row.to _ h l c.if-not-depth_holds.ensures)

pub returns-then-row-eq0 : goal.returns-then-row-eq0
returns-then-row-eq0 c = sym (no_depths c.args.code.now c.args.row _ c.args.row.from (c.args.row.to - c.args.row.from) c.if-row-eq0.true)
