use Rattle.std.proofs.Common.{◌≡◌, ℕ, ◌-◌, length}
use Rattle.cpp_syntax.proofs.TypeWords.{Tallied}
use Rattle.cpp_syntax.proofs.outline.Outline.behind_integer_words.Given as goal

abbrev pub invariant-words : goal.invariant-words
invariant-words l = Tallied l.self l.at l.next l.words

abbrev pub decreases-words : goal.decreases-words
decreases-words l = length l.self.terminals - l.next
