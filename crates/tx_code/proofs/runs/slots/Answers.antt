use Rattle.std.proofs.Common.{refl}
use Rattle.tx_ints.specs.Integers.{reduced, apply_of, negate_of, from_bits}
use Rattle.tx_ints.specs.Words.{word_of}
use Rattle.tx_code.specs.Meaning.{no_bytes, put_bytes, get_bytes}
use Rattle.tx_code.proofs.runs.slots.Goals as goal

pub returns-clause-derived : goal.returns-clause-derived
unfolding reduced apply_of negate_of word_of no_bytes put_bytes get_bytes from_bits
returns-clause-derived c = refl

pub returns-clause-itself : goal.returns-clause-itself
unfolding reduced apply_of negate_of word_of no_bytes put_bytes get_bytes from_bits
returns-clause-itself c = refl

pub returns-clause-pure : goal.returns-clause-pure
unfolding reduced apply_of negate_of word_of no_bytes put_bytes get_bytes from_bits
returns-clause-pure c = refl

pub returns-clause-base : goal.returns-clause-base
unfolding reduced apply_of negate_of word_of no_bytes put_bytes get_bytes from_bits
returns-clause-base c = refl

pub returns-clause-no_class : goal.returns-clause-no_class
unfolding reduced apply_of negate_of word_of no_bytes put_bytes get_bytes from_bits
returns-clause-no_class c = refl
