use Rattle.std.proofs.Common.{◌-◌, ◌^◌, ap, ◌∙◌, bit_and}
use Rattle.own_table.specs.Bits.{has_bit}
use Rattle.own_table.proofs.ThreadSets.{has_bit_without}
use Rattle.own_table.proofs.bits.without.Goals as goal

pub returns : goal.returns
returns c = λ u. ap (λ m. has_bit (bit_and c.args.bits (2 ^ 64 - 1 - m)) u) c.bit_of.ensures
    ∙ has_bit_without c.args.bits c.args.t u c.ranges.bits.fits c.requires
