use Rattle.std.proofs.Common.{◌++◌, ◌∷◌, [], cond, drop, ap, sym, ◌∙◌}
use Rattle.undo_log.specs.Notes.{is_noted}
use Rattle.undo_log.specs.IndexView.{words_listed}
use Rattle.undo_log.proofs.IndexLists.{noted_since}
use Rattle.undo_log.proofs.undo.Log.note.Goals as goal

pub returns-then-not-has_since-clause-notes : goal.returns-then-not-has_since-clause-notes
returns-then-not-has_since-clause-notes c =
    let self = c.args.self.now in
    let notes = self.list.notes.items in
    let capacity = c.requires.capacity in
    let noted = sym c.if-not-has_since.true ∙ (c.has_since.ensures ∙
    (noted_since notes (words_listed self.index) c.start-start.result c.args.word self.indexed capacity.indexed
    ∙ ap (λ n. is_noted (drop n notes) c.args.word) c.start-start.ensures.value)) in
    c.push.ensures
    ∙ ap (λ b. cond b notes (notes ++ record { word = c.args.word; old = c.args.old } ∷ [])) noted

pub returns-else-not-has_since-clause-notes : goal.returns-else-not-has_since-clause-notes
returns-else-not-has_since-clause-notes c =
    let self = c.args.self.now in
    let notes = self.list.notes.items in
    let noted = sym c.if-not-has_since.false ∙ (c.has_since.ensures ∙
    (noted_since notes (words_listed self.index) c.start-start.result c.args.word self.indexed c.requires.capacity.indexed
    ∙ ap (λ n. is_noted (drop n notes) c.args.word) c.start-start.ensures.value)) in
    ap (λ b. cond b notes (notes ++ record { word = c.args.word; old = c.args.old } ∷ [])) noted

pub push-requires-clause-fresh : goal.push-requires-clause-fresh
push-requires-clause-fresh c =
    let self = c.args.self.now in
    sym (noted_since self.list.notes.items (words_listed self.index) c.start-start.result c.args.word self.indexed c.requires.capacity.indexed)
    ∙ (sym c.has_since.ensures ∙ c.if-not-has_since.true)

pub push-requires-clause-again : goal.push-requires-clause-again
push-requires-clause-again c =
    let self = c.args.self.now in
    c.has_since-is_again.ensures ∙ noted_since self.list.notes.items
    (words_listed self.index) self.list.distinct c.args.word self.indexed c.requires.capacity.indexed
