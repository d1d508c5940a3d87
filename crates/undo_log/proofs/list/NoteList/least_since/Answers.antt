use Rattle.std.proofs.Common.{◌-◌, length, drop, take, option_map, slice_get, refl, ap, ◌∙◌, arith}
use Rattle.undo_log.specs.declared.notes.Note.{Note}
use Rattle.undo_log.proofs.NoteLists.{from_position}
use Rattle.undo_log.proofs.NoteOrder.{noted_by, least_by, descends_later}
use Rattle.undo_log.proofs.list.NoteList.least_since.Goals as goal

pub returns-then-self-start-clause-noted : goal.returns-then-self-start-clause-noted
returns-then-self-start-clause-noted c =
    let ns = c.args.self.now.notes.items in
    let there = ap (λ xs. take (length xs - c.args.start) (drop c.args.start xs)) c.deref.ensures.value ∙ from_position ns c.args.start in
    noted_by (drop c.args.start ns) _ c.last_word.result refl
    (c.last_word.ensures ∙ ap (λ xs. option_map (λ (n : Note). n.word) (slice_get xs (length xs - 1))) there)

pub returns-then-self-start-clause-least : goal.returns-then-self-start-clause-least
returns-then-self-start-clause-least c =
    let self = c.args.self.now in
    let ns = self.notes.items in
    let there = ap (λ xs. take (length xs - c.args.start) (drop c.args.start xs)) c.deref.ensures.value ∙ from_position ns c.args.start in
    least_by (drop c.args.start ns) _ c.last_word.result (descends_later ns self.sorted c.args.start (omega arith) self.descending) refl
    (c.last_word.ensures ∙ ap (λ xs. option_map (λ (n : Note). n.word) (slice_get xs (length xs - 1))) there)
