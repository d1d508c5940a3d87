use Rattle.std.proofs.Common.{length, take}
use Rattle.undo_log.specs.Notes.{others}
use Rattle.undo_log.proofs.NoteLists.{Maps}
use Rattle.undo_log.proofs.notes.move_marks.Given as goal

abbrev pub invariant-loop-i : goal.invariant-loop-i
invariant-loop-i l = Maps (λ m. length (others l.word (take m l.notes))) l.initial.marks.items l.marks.items l.i
