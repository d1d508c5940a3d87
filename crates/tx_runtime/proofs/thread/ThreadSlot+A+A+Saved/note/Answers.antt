use Rattle.std.proofs.Common.{length, ap, arith}
use Rattle.tx_runtime.proofs.SlotLemmas.{relog}
use Rattle.tx_runtime.proofs.LogSavepoints.{log_noted, unmarked}
use Rattle.tx_runtime.proofs.thread.ThreadSlot+A+A+Saved.note.Goals as goal

pub returns-then-marks-gt0-clause-local : goal.returns-then-marks-gt0-clause-local
returns-then-marks-gt0-clause-local g c = λ holders t. relog g.A.Actor.state g.A.Actor.saved_state holders t c.args.self.now _ _
    (log_noted c.args.self.now.log _ c.args.word c.args.old
    (let e = ap length c.marks.ensures in omega (arith, e, c.if-marks-gt0.true)) c.note.ensures.notes c.note.ensures.marks)

pub returns-else-marks-gt0-clause-local : goal.returns-else-marks-gt0-clause-local
returns-else-marks-gt0-clause-local g c = λ holders t. relog g.A.Actor.state g.A.Actor.saved_state holders t c.args.self.now c.args.self.now.log _
    (unmarked c.args.self.now.log c.args.word c.args.old (let e = ap length c.marks.ensures in omega (arith, e, c.if-marks-gt0.false)))
