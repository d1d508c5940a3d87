use Rattle.std.proofs.Common.{ap, ◌∙◌, bit_or}
use Rattle.own_table.specs.Bits.{has_bit}
use Rattle.own_table.proofs.ThreadSets.{has_bit_with}
use Rattle.own_table.proofs.bits.with.Goals as goal

pub returns : goal.returns
returns c = λ u. ap (λ m. has_bit (bit_or c.args.bits m) u) c.bit_of.ensures ∙ has_bit_with c.args.bits c.args.t u
