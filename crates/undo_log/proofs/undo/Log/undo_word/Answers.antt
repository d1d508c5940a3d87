use Rattle.std.proofs.Common.{ap, sym, ◌∙◌}
use Rattle.tx_memory.specs.View.{words_of}
use Rattle.undo_log.specs.Notes.{word_back}
use Rattle.undo_log.specs.IndexView.{words_listed}
use Rattle.undo_log.proofs.IndexLists.{begins_kept}
use Rattle.undo_log.proofs.NoteLists.{marks_within}
use Rattle.undo_log.proofs.NoteOrder.{unnoted_stays, marks_unnoted}
use Rattle.undo_log.proofs.PutBack.{first_none}
use Rattle.undo_log.proofs.undo.Log.undo_word.Goals as goal

pub returns-then-is_above-clause-words : goal.returns-then-is_above-clause-words
returns-then-is_above-clause-words c = sym (ap (λ o. word_back o c.args.word (words_of c.args.memory.now))
    (first_none c.args.self.now.list.notes.items c.args.word (c.is_above.ensures c.if-is_above.true)))

pub returns-then-is_above-clause-notes : goal.returns-then-is_above-clause-notes
returns-then-is_above-clause-notes c = sym (unnoted_stays c.args.self.now.list.notes.items c.args.word (c.is_above.ensures c.if-is_above.true))

pub returns-then-is_above-clause-marks : goal.returns-then-is_above-clause-marks
returns-then-is_above-clause-marks c =
    let self = c.args.self.now in
    marks_unnoted c.args.word self.list.notes.items self.marks.items (c.is_above.ensures c.if-is_above.true) self.within

pub invariant_of-self-clause-within : goal.invariant_of-self-clause-within
invariant_of-self-clause-within c =
    let self = c.args.self.now in
    rw (c.move_marks.ensures.marks, c.remove-kept.ensures.removed, c.move_marks.ensures.notes) (marks_within c.args.word self.list.notes.items self.marks.items)

pub invariant_of-self-clause-indexed : goal.invariant_of-self-clause-indexed
invariant_of-self-clause-indexed c =
    let moved = c.move_marks.new.self in
    rw c.truncate.ensures (begins_kept moved.list.notes.items _ (words_listed moved.index) c.remove-kept.result c.remove-kept.ensures.kept moved.indexed)
