use Rattle.std.proofs.Common.{◌≡◌, ◌≢◌, ℤ, pos, ap, ap₂, subst, sym, ◌∙◌, Ok, Err}
use Rattle.std.proofs.lemmas.Int.{to_z-of_z, rem_is}
use Rattle.std.specs.Int.{w128, cast_signed, cast_unsigned}
use Rattle.std.specs.Prelude.{int_div}
use mir.Val.{SFits}
use Rattle.tx_ints.specs.declared.kinds.BinOp.TheVariants.{Div}
use Rattle.tx_ints.specs.Integers.{InRange, apply_of}
use Rattle.tx_ints.proofs.Quotients.{quot_small, rem_range, remainder_traps, remainder_value, word_from_not_zero}
use Rattle.tx_ints.proofs.Values.{bounded}
use Rattle.tx_ints.proofs.operators.remainder.Goals as goal

pub returns-in-Ok-clause-value : goal.returns-in-Ok-clause-value
returns-in-Ok-clause-value c =
    let quotient : apply_of Div c.args.kind c.args.a c.args.b ≡ Ok c.in-Ok.field-0 =
    ap₂ (apply_of Div c.args.kind) (sym (to_z-of_z w128 c.args.a c.ranges.a)) (sym (to_z-of_z w128 c.args.b c.ranges.b))
    ∙ sym c.quotient.ensures.value ∙ c.in-Ok.is in
    ap Ok (rem_is w128 c.args.a c.args.b c.ranges.a c.ranges.b)
    ∙ remainder_value c.args.kind c.args.a c.args.b c.in-Ok.field-0 c.requires.left quotient

pub returns-in-Ok-clause-range : goal.returns-in-Ok-clause-range
returns-in-Ok-clause-range c =
    subst (λ (z : ℤ). InRange c.args.kind z) (sym (rem_is w128 c.args.a c.args.b c.ranges.a c.ranges.b))
    (rem_range c.args.kind c.args.a c.args.b c.requires.left)

pub returns-in-Err-clause-value : goal.returns-in-Err-clause-value
returns-in-Err-clause-value c =
    let quotient : apply_of Div c.args.kind c.args.a c.args.b ≡ Err c.in-Err.trap =
    ap₂ (apply_of Div c.args.kind) (sym (to_z-of_z w128 c.args.a c.ranges.a)) (sym (to_z-of_z w128 c.args.b c.ranges.b))
    ∙ sym c.quotient.ensures.value ∙ c.in-Err.is in
    sym (remainder_traps c.args.kind c.args.a c.args.b c.in-Err.trap quotient)

pub nonzero_rem-result : goal.nonzero_rem-result
nonzero_rem-result c =
    let divisor : cast_signed w128 (cast_unsigned w128 c.args.b) ≢ pos 0 = c.in-Ok.ensures.divisor in
    let some : c.args.b ≢ pos 0 = λ e. divisor (to_z-of_z w128 c.args.b c.ranges.b ∙ e) in (
      word_from_not_zero c.args.b c.ranges.b some,
      subst (λ (z : ℤ). SFits w128 z)
          (sym (ap₂ int_div (to_z-of_z w128 c.args.a c.ranges.a) (to_z-of_z w128 c.args.b c.ranges.b)))
          (quot_small c.args.a c.args.b (bounded c.args.kind c.args.a c.requires.left)),
    )
