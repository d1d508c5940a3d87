use Rattle.std.proofs.Common.{◌≡◌, ℕ, length}
use Rattle.own_table.specs.Stripes.{words_at}
use Rattle.own_table.specs.Words.{times_in}
use Rattle.own_table.proofs.words.no_words.Given as goal

abbrev pub invariant-loop-thread : goal.invariant-loop-thread
invariant-loop-thread l = (length l.all.items ≡ l._thread) × ((t w : ℕ) → times_in (words_at l.all.items t) w ≡ 0)
