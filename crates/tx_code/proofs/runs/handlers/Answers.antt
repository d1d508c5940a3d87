use Rattle.std.proofs.Common.{refl}
use Rattle.tx_ints.specs.Integers.{reduced, apply_of, negate_of, from_bits}
use Rattle.tx_ints.specs.Words.{word_of}
use Rattle.tx_code.specs.Meaning.{no_bytes, put_bytes, get_bytes}
use Rattle.tx_code.proofs.runs.handlers.Goals as goal

pub returns-clause-bytes : goal.returns-clause-bytes
unfolding reduced apply_of negate_of word_of no_bytes put_bytes get_bytes from_bits
returns-clause-bytes c = refl

pub returns-clause-number : goal.returns-clause-number
unfolding reduced apply_of negate_of word_of no_bytes put_bytes get_bytes from_bits
returns-clause-number c = refl

pub returns-clause-other_type : goal.returns-clause-other_type
unfolding reduced apply_of negate_of word_of no_bytes put_bytes get_bytes from_bits
returns-clause-other_type c = refl

pub returns-clause-first_row : goal.returns-clause-first_row
unfolding reduced apply_of negate_of word_of no_bytes put_bytes get_bytes from_bits
returns-clause-first_row c = refl

pub returns-clause-cut : goal.returns-clause-cut
unfolding reduced apply_of negate_of word_of no_bytes put_bytes get_bytes from_bits
returns-clause-cut c = refl

pub returns-clause-cleanup : goal.returns-clause-cleanup
unfolding reduced apply_of negate_of word_of no_bytes put_bytes get_bytes from_bits
returns-clause-cleanup c = refl

pub returns-clause-rethrown : goal.returns-clause-rethrown
unfolding reduced apply_of negate_of word_of no_bytes put_bytes get_bytes from_bits
returns-clause-rethrown c = refl

pub returns-clause-none_to_rethrow : goal.returns-clause-none_to_rethrow
unfolding reduced apply_of negate_of word_of no_bytes put_bytes get_bytes from_bits
returns-clause-none_to_rethrow c = refl

pub returns-clause-in_a_handler : goal.returns-clause-in_a_handler
unfolding reduced apply_of negate_of word_of no_bytes put_bytes get_bytes from_bits
returns-clause-in_a_handler c = refl

pub returns-clause-in_another_frame : goal.returns-clause-in_another_frame
unfolding reduced apply_of negate_of word_of no_bytes put_bytes get_bytes from_bits
returns-clause-in_another_frame c = refl
