use Rattle.std.proofs.Common.{◌-◌, length, ap, arith}
use Rattle.tx_runtime.proofs.SlotLemmas.{relog}
use Rattle.tx_runtime.proofs.LogSavepoints.{log_dropped}
use Rattle.tx_runtime.proofs.thread.ThreadSlot+A+A+Saved.drop_savepoint.Goals as goal

pub returns-clause-local : goal.returns-clause-local
returns-clause-local g c = λ holders t. relog g.A.Actor.state g.A.Actor.saved_state holders t c.args.self.now _ _
    (log_dropped c.args.self.now.log _ (length c.marks.result.now - 1) (let e = ap length c.marks.ensures in omega (arith, e))
    (let e = ap length c.marks.ensures in omega (arith, e)) c.drop_mark.ensures.notes c.drop_mark.ensures.marks)
