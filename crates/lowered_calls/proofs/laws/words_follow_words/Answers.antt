use Rattle.lowered_calls.proofs.Readings.{word_reads}
use Rattle.lowered_calls.proofs.laws.words_follow_words.Goals as goal

pub returns : goal.returns
returns c = λ p b book h g m items d chain i ids id x callee n way. word_reads p b book h g d chain i ids id x callee n way
