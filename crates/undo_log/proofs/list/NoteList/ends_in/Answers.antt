use Rattle.std.proofs.Common.{◌≡◌, ◌==◌, ◌-◌, true, length, ap, slice_get, sym, ◌∙◌, arith}
use Rattle.std.proofs.lemmas.Bool.{eqb-true}
use Rattle.undo_log.proofs.NoteOrder.{ends, times_later}
use Rattle.undo_log.proofs.list.NoteList.ends_in.Goals as goal

pub returns-in-Some : goal.returns-in-Some
returns-in-Some c = λ h.
    let self = c.args.self.now in
    ends c.args.start c.args.word self.notes.items c.in-Some.last.now (omega arith)
    (sym (c.in-Some.ensures.value ∙ ap (λ ns. slice_get ns (length ns - 1)) c.deref.ensures.value)) (eqb-true c.in-Some.last.now.word c.args.word h)
    (λ w. omega (arith, times_later self.notes.items self.distinct c.args.start w (omega arith), self.once w))
