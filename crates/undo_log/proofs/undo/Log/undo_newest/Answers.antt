use Rattle.std.proofs.Common.{ap, sym, ◌∙◌, drop}
use Rattle.tx_memory.specs.View.{layout_of}
use Rattle.undo_log.specs.Notes.{is_noted}
use Rattle.undo_log.specs.IndexView.{words_listed}
use Rattle.undo_log.proofs.IndexLists.{begins_same, begins_kept}
use Rattle.undo_log.specs.View.{newest_notes}
use Rattle.undo_log.proofs.NoteLists.{noted_access}
use Rattle.undo_log.proofs.undo.Log.undo_newest.Goals as goal

pub invariant_of-self-clause-indexed : goal.invariant_of-self-clause-indexed
invariant_of-self-clause-indexed c =
    let self = c.args.self.now in
    rw c.truncate.ensures (begins_kept self.list.notes.items _ (words_listed self.index) c.remove-kept.result c.remove-kept.ensures.kept self.indexed)

pub put_word_back-requires : goal.put_word_back-requires
put_word_back-requires c =
    let notes = c.args.self.now.list.notes.items in
    noted_access (layout_of c.args.memory.now) (newest_notes c.args.self.now) c.in_ok-word.word
    (ap (λ n. is_noted (drop n notes) c.in_ok-word.word) (sym c.start-start.ensures.value) ∙ c.in_ok-word.ensures.noted) c.requires.words
