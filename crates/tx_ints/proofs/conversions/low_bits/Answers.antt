use Rattle.std.proofs.Common.{ℤ, pos, ◌-ℤ◌, ap, ◌∙◌, bit_and}
use Rattle.std.specs.Int.{w128, cast_signed, cast_unsigned}
use Rattle.tx_ints.proofs.Masks.{low_is}
use Rattle.tx_ints.proofs.conversions.low_bits.Goals as goal

pub returns : goal.returns
returns c =
    ap (λ (m : ℤ). cast_signed w128 (bit_and (cast_unsigned w128 c.args.v)
    (cast_unsigned w128 (cast_signed w128 (cast_unsigned w128 m) -ℤ pos 1)))) c.modulus.ensures
    ∙ low_is c.args.kind c.args.v c.ranges.v
