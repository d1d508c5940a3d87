use Rattle.tx_ints.proofs.ConversionLaws.{converts_into_range, convert_keeps, convert_twice, converts_modulo, convert_only, convert_same}
use Rattle.tx_ints.proofs.laws.conversion_laws.Goals as goal

pub returns : goal.returns
returns c = record {
  range = converts_into_range;
  keeps = convert_keeps;
  twice = convert_twice;
  modulo = converts_modulo;
  only = convert_only;
  same = convert_same;
}
