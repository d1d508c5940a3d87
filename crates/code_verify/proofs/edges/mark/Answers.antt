use Rattle.std.proofs.Common.{◌≡◌, ◌<◌, ◌≤◌, ◌∙◌, length, refl, arith, true}
use Rattle.std.proofs.lemmas.List.{length-set}
use Rattle.code_verify.proofs.EdgeMarks.{marked, ranged, none_yet}
use Rattle.code_verify.proofs.edges.mark.Goals as goal

pub loop-index-init : goal.loop-index-init
loop-index-init c = record { len = refl; marks = λ i h. none_yet _ c.args.row.from i; none = λ h. refl }

pub loop-index-preserved : goal.loop-index-preserved
loop-index-preserved c =
    let n : c.loop-index.index < length c.loop-index.covered.items =
    omega (arith, c.loop-index-test.true, c.end_within-end.ensures.count, c.len.ensures, c.args.covered.now.ok, c.loop-index.invariant.len) in
    record {
      len = length-set c.loop-index.covered.items c.loop-index.index true ∙ c.loop-index.invariant.len;
      marks = λ i h. marked c.args.covered.now.items c.loop-index.covered.items c.args.row.from c.loop-index.index i c.loop-index.auto.index n
          (c.loop-index.invariant.marks i h);
      none = λ h. absurd (omega (arith, h, c.loop-index-test.true, c.loop-index.auto.index));
    }

pub returns-clause-marks : goal.returns-clause-marks
returns-clause-marks c = λ i h.
    let l : c.len.result ≡ length c.args.covered.now.items = omega (arith, c.len.ensures, c.args.covered.now.ok) in
    let w : i < c.len.result = omega (arith, h, l) in
    c.loop-index.invariant.marks i h ∙ ranged c.len.result c.args.row.from c.args.row.to c.end_within-end.result c.loop-index.index i _ w
    c.end_within-end.ensures.row c.end_within-end.ensures.all
    (λ k. let u : c.loop-index.index ≤ c.end_within-end.result = c.loop-index.auto.index-end (omega (arith, k)) in
    omega (arith, u, c.loop-index-test.false)) c.loop-index.invariant.none
