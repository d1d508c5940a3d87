use Rattle.std.proofs.Common.{◌≡◌, ◌<◌, ◌≤◌, ◌+◌, ℕ, Some, length, slice_get}
use Rattle.std.specs.BinaryHeap.{heap_len, heap_capacity}
use Rattle.own_table.specs.declared.held.HeldWords.{HeldWords}
use Rattle.own_table.specs.Stripes.{words_at}
use Rattle.own_table.proofs.words.reserve_words.Given as goal

abbrev pub invariant-loop-t : goal.invariant-loop-t
invariant-loop-t l = (length l.held.items ≡ length l.initial.held.items) × ((t : ℕ) → words_at l.held.items t ≡ words_at l.initial.held.items t)
    × ((t : ℕ) (h : HeldWords) → t < l.t → slice_get l.held.items t ≡ Some h → heap_len h.words + l.count ≤ heap_capacity h.words)
