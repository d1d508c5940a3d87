use Rattle.std.proofs.Common.{◌<◌, ◌-◌, length, sym, ◌∙◌, arith}
use Rattle.code_verify.specs.Rules.{edge_test}
use Rattle.code_verify.proofs.Ranges.{range_on, range_stops, no_edges}
use Rattle.code_verify.proofs.rules.edges_hold.Goals as goal

pub loop-index-preserved : goal.loop-index-preserved
loop-index-preserved c =
    let h : c.loop-index.index < c.args.row.to = omega arith in
    let l : c.loop-index.index < length c.args.slots.now = omega (arith, c.requires.within) in
    c.loop-index.invariant ∙ range_on
    (edge_test c.args.row) c.args.nests.now c.args.slots.now c.loop-index.index c.args.row.to _ h l c.if-not-edge_holds.ensures

pub returns-then-not-edge_holds : goal.returns-then-not-edge_holds
returns-then-not-edge_holds c =
    let h : c.loop-index.index < c.args.row.to = omega arith in
    let l : c.loop-index.index < length c.args.slots.now = omega (arith, c.requires.within) in
    sym (c.loop-index.invariant ∙ range_stops
    (edge_test c.args.row) c.args.nests.now c.args.slots.now c.loop-index.index c.args.row.to _ h l c.if-not-edge_holds.ensures)

pub returns-then-not-is_edge : goal.returns-then-not-is_edge
returns-then-not-is_edge c = sym (no_edges c.args.row _ c.args.row.from (c.args.row.to - c.args.row.from) (sym c.if-not-is_edge.ensures))
