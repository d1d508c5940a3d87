use Rattle.std.proofs.Common.{[], ◌≡◌, ◌+◌, drop, ap, sym, ◌∙◌, arith}
use Rattle.std.proofs.lemmas.List.{at_drop_more, drop_all}
use Rattle.turn_bounds.specs.Alone.{zeros_in}
use Rattle.bounded_runs.proofs.Zeros.{counted_zero, counted_other}
use Rattle.bounded_runs.proofs.runs.first_turns.Goals.{then-t-eq0, else-t-eq0}
use Rattle.bounded_runs.proofs.runs.first_turns.Goals as goal

pub loop-t-init : goal.loop-t-init
loop-t-init c = record { sum = omega arith; few = omega arith }

pub overflow_add-turns : goal.overflow_add-turns
overflow_add-turns c =
    let few = c.loop-t.invariant.few in
    let test = c.loop-t-test.true in
    omega (arith, few, test)

pub loop-t-preserved : goal.loop-t-preserved
loop-t-preserved c =
    let inv = c.loop-t.invariant in
    let next = at_drop_more zeros_in c.args.picked.now c.loop-t.t-index 0 c.loop-t-test.true in
    elim c.if-t-eq0.branch [
      | then-t-eq0 w ↦ record {
        sum = omega (arith, inv.sum, w.turns-is, next ∙ counted_zero _ (drop (c.loop-t.t-index + 1) c.args.picked.now) w.if-t-eq0.true);
        few = omega (arith, inv.few, w.turns-is);
      }
      | else-t-eq0 w ↦ record {
        sum = omega (arith, inv.sum, w.turns-is, next ∙ counted_other _ (drop (c.loop-t.t-index + 1) c.args.picked.now) w.if-t-eq0.false);
        few = omega (arith, inv.few, w.turns-is);
      }
    ]

pub returns : goal.returns
returns c =
    let all : c.loop-t.turns + zeros_in [] ≡ zeros_in c.args.picked.now =
    ap (λ ts. c.loop-t.turns + zeros_in ts) (sym (drop_all c.loop-t.t-index c.args.picked.now c.loop-t-test.false)) ∙ c.loop-t.invariant.sum in
    omega (arith, all)
