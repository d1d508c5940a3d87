use Rattle.undo_log.proofs.NoteOrder.{once_cut, descends_cut}
use Rattle.undo_log.proofs.list.NoteList.remove.Goals as goal

pub invariant_of-self : goal.invariant_of-self
invariant_of-self c =
    let self = c.args.self.now in
    rw c.pop.ensures.rest (record {
      once = once_cut self.notes.items self.distinct _ self.once;
      descending = descends_cut self.notes.items self.sorted _ self.descending;
    })
