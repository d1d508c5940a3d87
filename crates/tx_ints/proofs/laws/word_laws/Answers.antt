use Rattle.tx_ints.proofs.WordLaws.{word_below, word_back, word_there, word_converts}
use Rattle.tx_ints.proofs.laws.word_laws.Goals as goal

pub returns : goal.returns
returns c = record { below = word_below; back = word_back; there = word_there; converts = word_converts }
