use Rattle.std.proofs.Common.{◌≡◌, ℤ, pos, neg_ℤ, ◌-ℤ◌, ap, sym, ◌∙◌, arith}
use Rattle.std.proofs.lemmas.Int.{ints}
use Rattle.std.specs.Int.{w128, cast_signed, cast_unsigned}
use Rattle.tx_ints.specs.Integers.{overflow_of, trapped_or, negate_of}
use Rattle.tx_ints.proofs.Values.{bounded}
use Rattle.tx_ints.proofs.OperatorLaws.{negate_overflows}
use Rattle.tx_ints.proofs.operators.negate.Goals as goal

pub returns-clause-value : goal.returns-clause-value
unfolding negate_of
returns-clause-value c =
    let b = bounded c.args.kind c.args.v c.requires in
    let e : cast_signed w128 (cast_unsigned w128 (pos 0 -ℤ cast_signed w128 (cast_unsigned w128 c.args.v))) ≡ neg_ℤ c.args.v =
    omega (arith, ints) in
    c.settle.ensures.value ∙ ap (λ (z : ℤ). trapped_or (overflow_of c.args.kind z) c.args.kind z) e

pub returns-clause-overflow : goal.returns-clause-overflow
returns-clause-overflow c =
    let traps = negate_overflows c.args.kind c.args.v c.requires in
    ((λ h. traps.0 (sym (returns-clause-value c) ∙ h)), (λ h. returns-clause-value c ∙ traps.1 h))
