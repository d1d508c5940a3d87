use Rattle.std.proofs.Common.{◌≡◌, ◌≤◌, ◌-◌, ◌+◌, length, take}
use Rattle.tx_memory.specs.View.{layout_of, words_of}
use Rattle.src_replay.specs.Undone.{undone}
use Rattle.src_replay.proofs.nested.Nested.cancel.Given as goal

-- so many notes are left, and the others were put back
abbrev pub invariant-loop-undone : goal.invariant-loop-undone
invariant-loop-undone l = (l.self.notes.items ≡ take (l.count + l.mark - l.undone) l.initial.self.notes.items)
    × (words_of l.memory ≡ undone l.initial.self.notes.items (l.count + l.mark - l.undone) (words_of l.initial.memory))
    × (layout_of l.memory ≡ layout_of l.initial.memory) × (l.self.marks.items ≡ l.initial.self.marks.items)
    × (l.mark ≤ l.undone) × (l.count ≡ length l.initial.self.notes.items) × (l.mark ≤ l.count → l.undone ≤ l.count)
