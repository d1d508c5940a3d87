use Rattle.std.proofs.Common.{refl}
use Rattle.tx_ints.specs.Integers.{reduced, apply_of, negate_of, from_bits}
use Rattle.tx_ints.specs.Words.{word_of}
use Rattle.tx_code.specs.Meaning.{no_bytes, put_bytes, get_bytes}
use Rattle.tx_code.proofs.runs.indirect_calls.Goals as goal

pub returns-clause-address : goal.returns-clause-address
unfolding reduced apply_of negate_of word_of no_bytes put_bytes get_bytes from_bits
returns-clause-address c = refl

pub returns-clause-words : goal.returns-clause-words
unfolding reduced apply_of negate_of word_of no_bytes put_bytes get_bytes from_bits
returns-clause-words c = refl

pub returns-clause-safety_aside : goal.returns-clause-safety_aside
unfolding reduced apply_of negate_of word_of no_bytes put_bytes get_bytes from_bits
returns-clause-safety_aside c = refl

pub returns-clause-no_function : goal.returns-clause-no_function
unfolding reduced apply_of negate_of word_of no_bytes put_bytes get_bytes from_bits
returns-clause-no_function c = refl

pub returns-clause-between : goal.returns-clause-between
unfolding reduced apply_of negate_of word_of no_bytes put_bytes get_bytes from_bits
returns-clause-between c = refl

pub returns-clause-other_type : goal.returns-clause-other_type
unfolding reduced apply_of negate_of word_of no_bytes put_bytes get_bytes from_bits
returns-clause-other_type c = refl

pub returns-clause-transaction : goal.returns-clause-transaction
unfolding reduced apply_of negate_of word_of no_bytes put_bytes get_bytes from_bits
returns-clause-transaction c = refl

pub returns-clause-no_safe_body : goal.returns-clause-no_safe_body
unfolding reduced apply_of negate_of word_of no_bytes put_bytes get_bytes from_bits
returns-clause-no_safe_body c = refl

pub returns-clause-no_safe_body_below : goal.returns-clause-no_safe_body_below
unfolding reduced apply_of negate_of word_of no_bytes put_bytes get_bytes from_bits
returns-clause-no_safe_body_below c = refl
