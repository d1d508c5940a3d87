use Rattle.std.proofs.Common.{ap, ◌∙◌}
use Rattle.std.proofs.lemmas.Option.{IfSome_then}
use Rattle.tx_serial.specs.Machine.{Local}
use Rattle.tx_runtime.specs.Saves.{saves_of, newest_without}
use Rattle.tx_runtime.specs.Threads.{local_of, tx_of}
use Rattle.tx_runtime.proofs.SlotLemmas.{none_then}
use Rattle.tx_runtime.proofs.thread.ThreadSlot+A+A+Saved.undo_newest.Goals as goal

pub returns-clause-local : goal.returns-clause-local
returns-clause-local g c = IfSome_then c.undo_least.result c.undo_least.ensures.local (λ w f holders t.
    let self = c.args.self.now in
    let ordered = c.order.new.self in
    let l = local_of g.A.Actor.state g.A.Actor.saved_state holders t self in
    f holders t
    ∙ (ap (λ (v : Local g.A.Actor.State). record v { tx = tx_of g.A.Actor.saved_state ordered.tx (newest_without w (saves_of ordered.log)) })
    (c.order.ensures.local holders t)
    ∙ (ap (λ o. record l { tx = tx_of g.A.Actor.saved_state o (newest_without w (saves_of ordered.log)) }) c.order.ensures.tx
    ∙ ap (λ ss. record l { tx = tx_of g.A.Actor.saved_state self.tx (newest_without w ss) }) c.order.ensures.saves)))

pub returns-clause-same : goal.returns-clause-same
returns-clause-same g c = none_then c.undo_least.result c.undo_least.ensures.same (λ f holders t. f holders t ∙ c.order.ensures.local holders t)
