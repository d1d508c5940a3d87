use Rattle.std.proofs.Common.{refl}
use Rattle.tx_ints.specs.Integers.{reduced, apply_of, negate_of, from_bits}
use Rattle.tx_ints.specs.Words.{word_of}
use Rattle.tx_code.specs.Meaning.{no_bytes, put_bytes, get_bytes}
use Rattle.tx_code.proofs.runs.threads_and_bytes.Goals as goal

pub returns-clause-out : goal.returns-clause-out
unfolding reduced apply_of negate_of word_of no_bytes put_bytes get_bytes from_bits
returns-clause-out c = refl

pub returns-clause-inp : goal.returns-clause-inp
unfolding reduced apply_of negate_of word_of no_bytes put_bytes get_bytes from_bits
returns-clause-inp c = refl

pub returns-clause-spawn : goal.returns-clause-spawn
unfolding reduced apply_of negate_of word_of no_bytes put_bytes get_bytes from_bits
returns-clause-spawn c = refl

pub returns-clause-no_start : goal.returns-clause-no_start
unfolding reduced apply_of negate_of word_of no_bytes put_bytes get_bytes from_bits
returns-clause-no_start c = refl

pub returns-clause-join : goal.returns-clause-join
unfolding reduced apply_of negate_of word_of no_bytes put_bytes get_bytes from_bits
returns-clause-join c = refl

pub returns-clause-lock : goal.returns-clause-lock
unfolding reduced apply_of negate_of word_of no_bytes put_bytes get_bytes from_bits
returns-clause-lock c = refl
