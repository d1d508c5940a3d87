use Rattle.std.proofs.Common.{◌≡◌, ◌∙◌, ◌+◌, ◌-◌, suc, length, take, sym, ap, arith}
use Rattle.std.specs.Prelude.{reverse}
use Rattle.unwind_lower.specs.Conditions.{up_to_end}
use Rattle.unwind_lower.proofs.Work.{end_found, end_below}
use Rattle.unwind_lower.proofs.conditions.rest_of_full.Goals as goal

pub returns-then-is_end-clause-count : goal.returns-then-is_end-clause-count
returns-then-is_end-clause-count c =
    let work = c.args.work.now in
    let k = c.loop-left.left - 1 in
    let on : c.loop-left.left ≡ k + 1 = omega arith in
    let found : length (up_to_end (reverse (take c.loop-left.left work))) ≡ 1 = ap (λ n. length (up_to_end (reverse (take n work)))) on
    ∙ end_found work k _ (omega (arith, c.loop-left.invariant.within)) (sym c.if-is_end.ensures) in
    omega (arith, found, c.loop-left.invariant.count, c.loop-left.invariant.within)

pub loop-left-preserved : goal.loop-left-preserved
loop-left-preserved c =
    let work = c.args.work.now in
    let k = c.loop-left.left - 1 in
    let on : c.loop-left.left ≡ k + 1 = omega arith in
    let below : length (up_to_end (reverse (take c.loop-left.left work))) ≡ suc (length (up_to_end (reverse (take k work)))) =
    ap (λ n. length (up_to_end (reverse (take n work)))) on ∙ end_below work k _ (omega (arith, c.loop-left.invariant.within)) (sym c.if-is_end.ensures) in
    record {
      within = omega (arith, c.loop-left.invariant.within);
      count = omega (arith, below, c.loop-left.invariant.count, c.loop-left.invariant.within);
    }
