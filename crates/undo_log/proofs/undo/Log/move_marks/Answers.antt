use Rattle.std.proofs.Common.{map, ap, ◌∙◌, arith}
use Rattle.undo_log.proofs.NoteLists.{moved_to, marks_within, marks_ascending}
use Rattle.undo_log.proofs.NoteOrder.{others_fewer}
use Rattle.undo_log.proofs.undo.Log.move_marks.Goals as goal

pub invariant_of-self-2-clause-within : goal.invariant_of-self-2-clause-within
invariant_of-self-2-clause-within c =
    let self = c.args.self.now in
    let notes = self.list.notes.items in
    let moved = c.move_marks.ensures ∙ ap (λ ns. map (moved_to c.args.word ns) self.marks.items) c.as_slice.ensures.value in
    rw moved (λ i l. omega (arith, marks_within c.args.word notes self.marks.items i l, others_fewer c.args.word notes))

pub invariant_of-self-2-clause-ascending : goal.invariant_of-self-2-clause-ascending
invariant_of-self-2-clause-ascending c =
    let self = c.args.self.now in
    let notes = self.list.notes.items in
    let moved = c.move_marks.ensures ∙ ap (λ ns. map (moved_to c.args.word ns) self.marks.items) c.as_slice.ensures.value in
    rw moved (marks_ascending c.args.word notes self.marks.items self.ascending)
