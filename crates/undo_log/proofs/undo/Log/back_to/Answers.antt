use Rattle.std.proofs.Common.{◌+◌, ap}
use Rattle.undo_log.specs.Notes.{noted_words}
use Rattle.undo_log.specs.IndexView.{words_listed}
use Rattle.undo_log.proofs.IndexLists.{begins_same, begins_cut}
use Rattle.undo_log.proofs.NoteLists.{ascending_cut}
use Rattle.undo_log.proofs.undo.Log.back_to.Goals as goal

pub invariant_of-self-clause-indexed : goal.invariant_of-self-clause-indexed
invariant_of-self-clause-indexed c =
    let self = c.args.self.now in
    begins_same (ap noted_words c.truncate.ensures) c.truncate-2.ensures
    (begins_cut self.list.notes.items (words_listed self.index) c.index-start.result.now self.indexed)

pub invariant_of-self-clause-ascending : goal.invariant_of-self-clause-ascending
invariant_of-self-clause-ascending c = rw (c.truncate-3.ensures.items) (ascending_cut c.args.self.now.marks.items (c.args.mark + 1) c.args.self.now.ascending)
