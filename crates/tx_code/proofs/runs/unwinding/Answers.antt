use Rattle.std.proofs.Common.{refl}
use Rattle.tx_ints.specs.Integers.{reduced, apply_of, negate_of, from_bits}
use Rattle.tx_ints.specs.Words.{word_of}
use Rattle.tx_code.specs.Meaning.{no_bytes, put_bytes, get_bytes}
use Rattle.tx_code.proofs.runs.unwinding.Goals as goal

pub returns-clause-two_frames : goal.returns-clause-two_frames
unfolding reduced apply_of negate_of word_of no_bytes put_bytes get_bytes from_bits
returns-clause-two_frames c = refl

pub returns-clause-no_except : goal.returns-clause-no_except
unfolding reduced apply_of negate_of word_of no_bytes put_bytes get_bytes from_bits
returns-clause-no_except c = refl

pub returns-clause-caught_before_no_except : goal.returns-clause-caught_before_no_except
unfolding reduced apply_of negate_of word_of no_bytes put_bytes get_bytes from_bits
returns-clause-caught_before_no_except c = refl

pub returns-clause-cancel : goal.returns-clause-cancel
unfolding reduced apply_of negate_of word_of no_bytes put_bytes get_bytes from_bits
returns-clause-cancel c = refl

pub returns-clause-cancel_not : goal.returns-clause-cancel_not
unfolding reduced apply_of negate_of word_of no_bytes put_bytes get_bytes from_bits
returns-clause-cancel_not c = refl

pub returns-clause-commit : goal.returns-clause-commit
unfolding reduced apply_of negate_of word_of no_bytes put_bytes get_bytes from_bits
returns-clause-commit c = refl

pub returns-clause-nothing_out : goal.returns-clause-nothing_out
unfolding reduced apply_of negate_of word_of no_bytes put_bytes get_bytes from_bits
returns-clause-nothing_out c = refl

pub returns-clause-lock : goal.returns-clause-lock
unfolding reduced apply_of negate_of word_of no_bytes put_bytes get_bytes from_bits
returns-clause-lock c = refl

pub returns-clause-past_a_block : goal.returns-clause-past_a_block
unfolding reduced apply_of negate_of word_of no_bytes put_bytes get_bytes from_bits
returns-clause-past_a_block c = refl
