use Rattle.std.proofs.Common.{arith}
use Rattle.tx_runtime.proofs.RuntimeViews.{log_past, log_at, marks_shown}
use Rattle.tx_runtime.proofs.SavepointLevels.{levels_shown}
use Rattle.tx_runtime.proofs.runtime.Runtime.log.Goals as goal

pub returns-then-t-len-clause-saves : goal.returns-then-t-len-clause-saves
returns-then-t-len-clause-saves g c = log_at g.A.Actor.state g.A.Actor.saved_state c.args.self.now.engine c.args.t c.index.result.now
    (omega (arith, c.if-t-len.true, c.len.ensures, c.args.self.now.engine.threads.ok.0)) c.index.ensures

pub returns-then-t-len-clause-marks : goal.returns-then-t-len-clause-marks
returns-then-t-len-clause-marks g c = marks_shown c.index.result.now.log _
    (log_at g.A.Actor.state g.A.Actor.saved_state c.args.self.now.engine c.args.t c.index.result.now
    (omega (arith, c.if-t-len.true, c.len.ensures, c.args.self.now.engine.threads.ok.0)) c.index.ensures)

pub returns-else-t-len-clause-saves : goal.returns-else-t-len-clause-saves
returns-else-t-len-clause-saves g c = log_past g.A.Actor.state g.A.Actor.saved_state c.args.self.now.engine c.args.t
    (omega (arith, c.if-t-len.false, c.len.ensures, c.args.self.now.engine.threads.ok.0)) c.args.self.now.blank c.args.self.now.blank_log

pub returns-else-t-len-clause-marks : goal.returns-else-t-len-clause-marks
returns-else-t-len-clause-marks g c = marks_shown c.args.self.now.blank _
    (log_past g.A.Actor.state g.A.Actor.saved_state c.args.self.now.engine c.args.t
    (omega (arith, c.if-t-len.false, c.len.ensures, c.args.self.now.engine.threads.ok.0)) c.args.self.now.blank c.args.self.now.blank_log)

pub returns-then-t-len-clause-levels : goal.returns-then-t-len-clause-levels
returns-then-t-len-clause-levels g c = levels_shown c.index.result.now.log _
    (log_at g.A.Actor.state g.A.Actor.saved_state c.args.self.now.engine c.args.t c.index.result.now
    (omega (arith, c.if-t-len.true, c.len.ensures, c.args.self.now.engine.threads.ok.0)) c.index.ensures)

pub returns-else-t-len-clause-levels : goal.returns-else-t-len-clause-levels
returns-else-t-len-clause-levels g c = levels_shown c.args.self.now.blank _
    (log_past g.A.Actor.state g.A.Actor.saved_state c.args.self.now.engine c.args.t
    (omega (arith, c.if-t-len.false, c.len.ensures, c.args.self.now.engine.threads.ok.0)) c.args.self.now.blank c.args.self.now.blank_log)
