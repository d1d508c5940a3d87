use Rattle.std.proofs.Common.{refl}
use Rattle.tx_ints.specs.Integers.{reduced, apply_of, negate_of, from_bits}
use Rattle.tx_ints.specs.Words.{word_of}
use Rattle.tx_code.specs.Meaning.{no_bytes, put_bytes, get_bytes}
use Rattle.tx_code.proofs.runs.operands.Goals as goal

pub returns-clause-push : goal.returns-clause-push
unfolding reduced apply_of negate_of word_of no_bytes put_bytes get_bytes from_bits
returns-clause-push c = refl

pub returns-clause-dup : goal.returns-clause-dup
unfolding reduced apply_of negate_of word_of no_bytes put_bytes get_bytes from_bits
returns-clause-dup c = refl

pub returns-clause-pop : goal.returns-clause-pop
unfolding reduced apply_of negate_of word_of no_bytes put_bytes get_bytes from_bits
returns-clause-pop c = refl

pub returns-clause-swap : goal.returns-clause-swap
unfolding reduced apply_of negate_of word_of no_bytes put_bytes get_bytes from_bits
returns-clause-swap c = refl

pub returns-clause-over : goal.returns-clause-over
unfolding reduced apply_of negate_of word_of no_bytes put_bytes get_bytes from_bits
returns-clause-over c = refl

pub returns-clause-frame : goal.returns-clause-frame
unfolding reduced apply_of negate_of word_of no_bytes put_bytes get_bytes from_bits
returns-clause-frame c = refl

pub returns-clause-global : goal.returns-clause-global
unfolding reduced apply_of negate_of word_of no_bytes put_bytes get_bytes from_bits
returns-clause-global c = refl

pub returns-clause-func : goal.returns-clause-func
unfolding reduced apply_of negate_of word_of no_bytes put_bytes get_bytes from_bits
returns-clause-func c = refl

pub returns-clause-class : goal.returns-clause-class
unfolding reduced apply_of negate_of word_of no_bytes put_bytes get_bytes from_bits
returns-clause-class c = refl
