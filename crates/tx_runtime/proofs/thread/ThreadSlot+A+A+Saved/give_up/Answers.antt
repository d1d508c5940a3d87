use Rattle.tx_runtime.proofs.SlotLemmas.{given_local}
use Rattle.tx_runtime.proofs.thread.ThreadSlot+A+A+Saved.give_up.Goals as goal

pub returns-in-Some-clause-local : goal.returns-in-Some-clause-local
returns-in-Some-clause-local g c = λ holders t x e. given_local g.A.Actor.state g.A.Actor.saved_state holders t c.args.self.now c.order.new.self x c.in-Some.tx
    c.none-self.result e c.in-Some.is c.order.ensures.tx (c.order.ensures.local holders t) c.order.ensures.saves
