use Rattle.std.proofs.Common.{ℕ, ◌≡◌, ◌<◌, ◌+◌, ◌%◌, true, arith}
use Rattle.tx_events.specs.Thread.{is_size}
use Rattle.tx_events.specs.Memory.{MemoryLayout, can_access}
use Rattle.tx_events.proofs.WordLemmas.{access_below, mapped_whole, is_accessed}
use Rattle.tx_events.proofs.ByteLemmas.{fits_word, same_word}
use Rattle.tx_events.proofs.laws.an_access_lies_in_a_word.Goals as goal

inside : (p : MemoryLayout) (addr size k : ℕ) → is_size size ≡ true → can_access p addr size ≡ true → k < size → addr % 8 + k < 8
inside p addr size k s a h = let fits = fits_word addr size s (is_accessed p addr size a).0 in omega (arith, fits, h)

pub returns-clause-one_word : goal.returns-clause-one_word
returns-clause-one_word c = λ p addr size k s a h. same_word addr k (inside p addr size k s a h)

pub returns-clause-mapped : goal.returns-clause-mapped
returns-clause-mapped c = λ p addr size k s a h. mapped_whole p addr k (inside p addr size k s a h) (is_accessed p addr size a).1

pub returns-clause-below : goal.returns-clause-below
returns-clause-below c = access_below
