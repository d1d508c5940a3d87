use Rattle.tx_runtime.proofs.SlotLemmas.{again_local, fresh_saves}
use Rattle.tx_runtime.proofs.thread.ThreadSlot+A+A+Saved.start_again.Goals as goal

pub returns-in-Some-clause-local : goal.returns-in-Some-clause-local
returns-in-Some-clause-local g c = λ holders t x e. again_local g.A.Actor.state g.A.Actor.saved_state holders t c.args.self.now x c.in-Some.tx c.args.copy
    c.restore.new.self c.none-self.result c.start_over.new.self e c.in-Some.is c.restore.ensures
    (fresh_saves c.start_over.new.self (record { notes = c.start_over.ensures.notes; marks = c.start_over.ensures.marks }))
