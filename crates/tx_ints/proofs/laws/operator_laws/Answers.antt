use Rattle.tx_ints.proofs.Bits.{and_bits, xor_bits, or_bits}
use Rattle.tx_ints.proofs.OperatorLaws.{applies_into_range, unsigned_traps, signed_keeps}
use Rattle.tx_ints.proofs.laws.operator_laws.Goals as goal

pub returns : goal.returns
returns c = record {
  range = applies_into_range;
  unsigned = unsigned_traps;
  signed = signed_keeps;
  and = and_bits;
  xor = xor_bits;
  or = or_bits;
}
