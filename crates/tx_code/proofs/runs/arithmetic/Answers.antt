use Rattle.std.proofs.Common.{refl}
use Rattle.tx_ints.specs.Integers.{reduced, apply_of, negate_of, from_bits}
use Rattle.tx_ints.specs.Words.{word_of}
use Rattle.tx_code.specs.Meaning.{no_bytes, put_bytes, get_bytes}
use Rattle.tx_code.proofs.runs.arithmetic.Goals as goal

pub returns-clause-quotient : goal.returns-clause-quotient
unfolding reduced apply_of negate_of word_of no_bytes put_bytes get_bytes from_bits
returns-clause-quotient c = refl

pub returns-clause-shift : goal.returns-clause-shift
unfolding reduced apply_of negate_of word_of no_bytes put_bytes get_bytes from_bits
returns-clause-shift c = refl

pub returns-clause-less : goal.returns-clause-less
unfolding reduced apply_of negate_of word_of no_bytes put_bytes get_bytes from_bits
returns-clause-less c = refl

pub returns-clause-negation : goal.returns-clause-negation
unfolding reduced apply_of negate_of word_of no_bytes put_bytes get_bytes from_bits
returns-clause-negation c = refl

pub returns-clause-conversion : goal.returns-clause-conversion
unfolding reduced apply_of negate_of word_of no_bytes put_bytes get_bytes from_bits
returns-clause-conversion c = refl

pub returns-clause-overflow : goal.returns-clause-overflow
unfolding reduced apply_of negate_of word_of no_bytes put_bytes get_bytes from_bits
returns-clause-overflow c = refl

pub returns-clause-zero : goal.returns-clause-zero
unfolding reduced apply_of negate_of word_of no_bytes put_bytes get_bytes from_bits
returns-clause-zero c = refl

pub returns-clause-count : goal.returns-clause-count
unfolding reduced apply_of negate_of word_of no_bytes put_bytes get_bytes from_bits
returns-clause-count c = refl
