use Rattle.std.proofs.Common.{◌≡◌, ◌∙◌, Err, arith, rules}
use Rattle.elab_implicit.proofs.Implying.{implied_next, implied_fails, implied_done, changes_fail}
use Rattle.elab_implicit.proofs.implicit.implied_below.Goals as goal

pub loop-left-preserved : goal.loop-left-preserved
loop-left-preserved c =
    let low = c.loop-left.invariant.low in
    let test = c.loop-left-test.true in
    let size = c.loop-left.invariant.size in
    record {
      low = omega arith;
      size = c.in_ok-implied.ensures.size ∙ size;
      table = c.in_ok-implied.ensures.table;
      step = implied_next c.args.st.now c.loop-left.st _ _ c.loop-left.left _ c.loop-left.invariant.step (omega arith) c.in_ok-implied.ensures.is;
    }

pub returns : goal.returns
returns c =
    let test = c.loop-left-test.false in
    implied_done c.args.st.now c.loop-left.st c.loop-left.left _ c.loop-left.invariant.step (omega arith)

pub returns-in_err-implied : goal.returns-in_err-implied
returns-in_err-implied c =
    let test = c.loop-left-test.true in
    let is_error : c.from_residual.result ≡ Err c.in_err-implied.field-0.0 = search rules in
    changes_fail _ _ _ _ _ is_error (implied_fails c.args.st.now c.loop-left.st _ c.loop-left.left _ _ c.loop-left.invariant.step
    (omega arith) c.in_err-implied.ensures.is)
