use Rattle.tx_runtime.proofs.SlotLemmas.{relog}
use Rattle.tx_runtime.proofs.LogSavepoints.{log_marked}
use Rattle.tx_runtime.proofs.thread.ThreadSlot+A+A+Saved.mark.Goals as goal

pub returns-clause-local : goal.returns-clause-local
returns-clause-local g c = λ holders t. relog g.A.Actor.state g.A.Actor.saved_state holders t c.args.self.now _ _
    (log_marked c.args.self.now.log _ c.mark.ensures.notes c.mark.ensures.marks)
