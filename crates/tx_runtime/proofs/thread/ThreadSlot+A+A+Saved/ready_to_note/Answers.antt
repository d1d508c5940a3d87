use Rattle.std.proofs.Common.{refl}
use Rattle.tx_runtime.proofs.SlotLemmas.{ready_local}
use Rattle.tx_runtime.proofs.thread.ThreadSlot+A+A+Saved.ready_to_note.Goals as goal

pub returns-clause-local : goal.returns-clause-local
returns-clause-local g c = λ holders t. ready_local g.A.Actor.state g.A.Actor.saved_state holders t c.args.self.now c.ready.new.self c.reserve.new.self
    c.ready.ensures.same c.reserve.ensures.notes c.reserve.ensures.marks

pub returns-in_err-reserve-clause-local : goal.returns-in_err-reserve-clause-local
returns-in_err-reserve-clause-local g c = λ holders t. ready_local g.A.Actor.state g.A.Actor.saved_state holders t c.args.self.now c.args.self.now.actor
    c.reserve.new.self refl c.reserve.ensures.notes c.reserve.ensures.marks
