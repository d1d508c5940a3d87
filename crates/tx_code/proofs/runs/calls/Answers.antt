use Rattle.std.proofs.Common.{refl}
use Rattle.tx_ints.specs.Integers.{reduced, apply_of, negate_of, from_bits}
use Rattle.tx_ints.specs.Words.{word_of}
use Rattle.tx_code.specs.Meaning.{no_bytes, put_bytes, get_bytes}
use Rattle.tx_code.proofs.runs.calls.Goals as goal

pub returns-clause-words : goal.returns-clause-words
unfolding reduced apply_of negate_of word_of no_bytes put_bytes get_bytes from_bits
returns-clause-words c = refl

pub returns-clause-frame : goal.returns-clause-frame
unfolding reduced apply_of negate_of word_of no_bytes put_bytes get_bytes from_bits
returns-clause-frame c = refl

pub returns-clause-nothing : goal.returns-clause-nothing
unfolding reduced apply_of negate_of word_of no_bytes put_bytes get_bytes from_bits
returns-clause-nothing c = refl

pub returns-clause-safe : goal.returns-clause-safe
unfolding reduced apply_of negate_of word_of no_bytes put_bytes get_bytes from_bits
returns-clause-safe c = refl

pub returns-clause-fits : goal.returns-clause-fits
unfolding reduced apply_of negate_of word_of no_bytes put_bytes get_bytes from_bits
returns-clause-fits c = refl

pub returns-clause-overflow : goal.returns-clause-overflow
unfolding reduced apply_of negate_of word_of no_bytes put_bytes get_bytes from_bits
returns-clause-overflow c = refl
