use Rattle.std.proofs.Common.{ap, refl, arith}
use Rattle.std.specs.Prelude.{unsigned_abs}
use Rattle.tx_ints.specs.Words.{word_of}
use Rattle.tx_ints.proofs.Masks.{masked}
use Rattle.tx_ints.proofs.words.word_of.Goals as goal

pub returns : goal.returns
unfolding word_of
returns c = ap unsigned_abs (masked 64 64 c.args.v (omega arith) refl (omega arith) c.ranges.v)
