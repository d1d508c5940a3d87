use Rattle.undo_log.proofs.NoteLists.{Removes}
use Rattle.undo_log.proofs.notes.remove_each.Given as goal

abbrev pub invariant-loop-position : goal.invariant-loop-position
invariant-loop-position l = Removes l.word l.start l.initial.notes.items l.notes.items l.kept l.position
