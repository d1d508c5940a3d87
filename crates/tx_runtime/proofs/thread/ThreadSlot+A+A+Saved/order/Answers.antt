use Rattle.std.proofs.Common.{drop, ap, sym, subst, ◌∙◌}
use Rattle.std.specs.List.Sorted.{IsPermutation}
use Rattle.undo_log.specs.Notes.{first_note}
use Rattle.undo_log.specs.View.{notes_of, newest_start, newest_notes}
use Rattle.tx_runtime.proofs.SlotLemmas.{relog, sound_ordered}
use Rattle.tx_runtime.proofs.LogSavepoints.{log_ordered}
use Rattle.tx_runtime.proofs.thread.ThreadSlot+A+A+Saved.order.Goals as goal

pub returns-clause-local : goal.returns-clause-local
returns-clause-local g c = λ holders t.
    let log = c.args.self.now.log in
    let new = c.order_newest.new.self in
    relog g.A.Actor.state g.A.Actor.saved_state holders t c.args.self.now new _ (log_ordered log new c.requires c.order_newest.ensures.older
    (λ w. ap (λ ms. first_note (drop (newest_start ms) (notes_of new)) w) (sym c.order_newest.ensures.marks)
    ∙ c.order_newest.ensures.first w) c.order_newest.ensures.marks)

pub returns-clause-saves : goal.returns-clause-saves
returns-clause-saves g c =
    let log = c.args.self.now.log in
    let new = c.order_newest.new.self in
    log_ordered log new c.requires c.order_newest.ensures.older
    (λ w. ap (λ ms. first_note (drop (newest_start ms) (notes_of new)) w) (sym c.order_newest.ensures.marks)
    ∙ c.order_newest.ensures.first w) c.order_newest.ensures.marks

pub returns-clause-sound : goal.returns-clause-sound
returns-clause-sound g c = λ p h.
    let log = c.args.self.now.log in
    let new = c.order_newest.new.self in
    sound_ordered p c.args.self.now new c.requires h c.order_newest.ensures.older
    (subst (λ ms. IsPermutation (newest_notes log) (drop (newest_start ms)
    (notes_of new))) c.order_newest.ensures.marks c.order_newest.ensures.newest) c.order_newest.ensures.marks
