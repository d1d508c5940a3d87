use Rattle.std.proofs.Common.{◌≢◌, ℤ, pos, ap, ◌∙◌, Result, Ok, Err}
use Rattle.std.proofs.lemmas.Int.{quot_is}
use Rattle.std.specs.Int.{w128, cast_unsigned}
use Rattle.std.specs.Prelude.{int_div}
use Rattle.std.specs.Result.{OnOk}
use mir.Val.{SFits}
use Rattle.tx_ints.specs.declared.kinds.ArithTrap.{ArithTrap}
use Rattle.tx_ints.specs.Integers.{overflow_of, trapped_or}
use Rattle.tx_ints.proofs.Quotients.{quot_small, zero_from_word, divided_by_zero, divided}
use Rattle.tx_ints.proofs.Values.{bounded}
use Rattle.tx_ints.proofs.operators.quotient.Goals as goal

pub returns-then-b-eq0-clause-value : goal.returns-then-b-eq0-clause-value
returns-then-b-eq0-clause-value c = divided_by_zero c.args.kind c.args.a c.args.b (zero_from_word c.args.b c.ranges.b c.if-b-eq0.true)

pub returns-clause-value : goal.returns-clause-value
returns-clause-value c =
    let some : c.args.b ≢ pos 0 = λ e. c.if-b-eq0.false (ap (cast_unsigned w128) e) in
    let fits : SFits w128 (int_div c.args.a c.args.b) = quot_small c.args.a c.args.b (bounded c.args.kind c.args.a c.requires.left) in
    c.settle.ensures.value
    ∙ ap (λ (z : ℤ). trapped_or (overflow_of c.args.kind z) c.args.kind z) (quot_is w128 c.args.a c.args.b c.ranges.a c.ranges.b fits)
    ∙ divided c.args.kind c.args.a c.args.b some

on_ok : (r : Result ℤ ArithTrap) (P : Type 0) → P → OnOk r P
on_ok (Ok v) P p = p
on_ok (Err e) P p = tt

pub returns-clause-divisor : goal.returns-clause-divisor
returns-clause-divisor c = on_ok c.settle.result (c.args.b ≢ pos 0) (λ e. c.if-b-eq0.false (ap (cast_unsigned w128) e))
