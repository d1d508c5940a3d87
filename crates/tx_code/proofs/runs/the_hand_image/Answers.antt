use Rattle.std.proofs.Common.{refl}
use Rattle.tx_ints.specs.Integers.{reduced, apply_of, negate_of, from_bits}
use Rattle.tx_ints.specs.Words.{word_of}
use Rattle.tx_code.specs.Meaning.{no_bytes, put_bytes, get_bytes}
use Rattle.tx_code.proofs.runs.the_hand_image.Goals as goal

pub returns : goal.returns
unfolding reduced apply_of negate_of word_of no_bytes put_bytes get_bytes from_bits
returns c = refl
