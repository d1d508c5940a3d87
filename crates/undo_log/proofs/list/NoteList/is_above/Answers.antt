use Rattle.std.proofs.Common.{◌≡◌, ◌<◌, ◌≤◌, ◌+◌, ◌-◌, true, length, ap, slice_get, sym, subst, ◌∙◌, drop, arith}
use Rattle.std.proofs.lemmas.Bool.{ltb-true}
use Rattle.undo_log.specs.Order.{IsDescending}
use Rattle.undo_log.proofs.NoteOrder.{all_above, last_least, descends_later}
use Rattle.undo_log.proofs.list.NoteList.is_above.Goals as goal

pub returns-in-Some : goal.returns-in-Some
returns-in-Some c = λ h.
    let self = c.args.self.now in
    all_above self.notes.items c.in-Some.last.now.word c.args.word
    (last_least self.notes.items c.in-Some.last.now (descends_later self.notes.items self.sorted 0 (omega arith) self.descending)
    (sym (c.in-Some.ensures.value ∙ ap (λ ns. slice_get ns (length ns - 1)) c.deref.ensures.value))) (ltb-true c.args.word c.in-Some.last.now.word h)
