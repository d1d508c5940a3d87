use Rattle.std.proofs.Common.{arith}
use Rattle.std.proofs.lemmas.Bool.{ltb-true}
use Rattle.undo_log.proofs.NoteOrder.{marks_ended}
use Rattle.undo_log.proofs.undo.Log.marks_stay.Goals as goal

pub returns : goal.returns
returns c = λ h.
    let self = c.args.self.now in
    marks_ended c.args.word self.list.notes.items self.marks.items (c.ends_in.ensures c.if-not-ends_in.false) self.ascending
    (omega (arith, ltb-true c.start.result c.len.result h, c.start.ensures.value, c.len.ensures))
