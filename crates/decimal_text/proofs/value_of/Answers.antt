use Rattle.std.proofs.Common.{◌+◌, arith}
use Rattle.decimal_text.proofs.Numbers.{digit_range, read_more, read_at_least}
use Rattle.decimal_text.proofs.value_of.Goals as goal

pub overflow_sub-digit : goal.overflow_sub-digit
overflow_sub-digit c = (digit_range c.args.digits.now c.digits.digit-index c.requires c.digits-test.true).0

pub returns-then-value-from : goal.returns-then-value-from
returns-then-value-from c =
    let more = read_more c.args.digits.now c.digits.digit-index c.digits-test.true in
    let least = read_at_least c.args.digits.now (c.digits.digit-index + 1) in
    omega (arith, c.digits.invariant.value)

pub digits-preserved : goal.digits-preserved
digits-preserved c =
    let more = read_more c.args.digits.now c.digits.digit-index c.digits-test.true in
    record { value = omega (arith, c.digits.invariant.value); bound = omega arith }
