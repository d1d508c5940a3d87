use Rattle.undo_log.proofs.list.NoteList.reserve.Goals as goal

pub invariant_of-self : goal.invariant_of-self
invariant_of-self c = rw c.reserve.ensures.items (record { once = c.args.self.now.once; descending = c.args.self.now.descending })
