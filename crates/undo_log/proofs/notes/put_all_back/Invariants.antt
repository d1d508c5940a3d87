use Rattle.std.proofs.Common.{◌≡◌, ◌≤◌, length, take}
use Rattle.tx_memory.specs.View.{layout_of, words_of}
use Rattle.undo_log.specs.Notes.{put_back}
use Rattle.undo_log.proofs.notes.put_all_back.Given as goal

abbrev pub invariant-loop-left : goal.invariant-loop-left
invariant-loop-left l = (l.left ≤ length l.notes) × (layout_of l.memory ≡ layout_of l.initial.memory)
    × (put_back (take l.left l.notes) (words_of l.memory) ≡ put_back l.notes (words_of l.initial.memory))

abbrev pub decreases-loop-left : goal.decreases-loop-left
decreases-loop-left l = l.left
