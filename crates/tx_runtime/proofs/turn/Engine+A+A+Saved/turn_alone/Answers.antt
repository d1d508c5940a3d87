use Rattle.std.proofs.Common.{ap, sym, ◌∙◌}
use Rattle.tx_runtime.specs.View.{machine_in, layout_in}
use Rattle.tx_runtime.proofs.ThreadTables.{on_err}
use Rattle.tx_runtime.proofs.AppliedRow.{inside_row, if_ok}
use Rattle.tx_runtime.proofs.StandingThreads.{stays_in}
use Rattle.tx_serial.specs.Turn.{in_does}
use Rattle.tx_serial.specs.Shows.{cancelling}
use Rattle.tx_runtime.proofs.AllocationPoints.{inside_may}
use Rattle.tx_runtime.proofs.turn.Engine+A+A+Saved.turn_alone.Goals as goal

pub returns-in-Stop-clause-turned : goal.returns-in-Stop-clause-turned
returns-in-Stop-clause-turned g c = if_ok c.halt.result (λ kind done answer.
    inside_row g.A.Actor.state g.A.Actor.saved_state g.A.Actor.is_reached g.A.Actor.thread c.args.self.now answer c.args.t c.args.event _ c.requires.here
    (λ l at i. done ∙ ap (in_does g.A.Actor.thread (layout_in c.args.self.now) answer c.args.t
    (machine_in g.A.Actor.state g.A.Actor.saved_state c.args.self.now) l i.birth i.kept i.saves) (sym c.in-Stop.is))) c.halt.ensures.done

pub returns-in_default-clause-turned : goal.returns-in_default-clause-turned
returns-in_default-clause-turned g c answer =
    inside_row g.A.Actor.state g.A.Actor.saved_state g.A.Actor.is_reached g.A.Actor.thread c.args.self.now answer c.args.t c.args.event _ c.requires.here
    (λ l at i. stays_in g.A.Actor.thread (layout_in c.args.self.now) answer c.args.t
    (machine_in g.A.Actor.state g.A.Actor.saved_state c.args.self.now) l i.birth i.kept i.saves c.args.event c.requires.alone
    c.in_default.not-Silent c.in_default.not-BeginSync c.in_default.not-EndSync c.in_default.not-BeginAtomic c.in_default.not-EndAtomic c.in_default.not-Raise
    c.in_default.not-Stop)

pub returns-in-Silent-clause-capacity : goal.returns-in-Silent-clause-capacity
returns-in-Silent-clause-capacity g c = on_err c.pass.result
    (inside_may g.A.Actor.state g.A.Actor.saved_state g.A.Actor.thread c.args.self.now c.args.t g.A.Actor.is_reached c.args.event c.requires.here
    (ap cancelling c.in-Silent.is))

pub returns-in-BeginSync-clause-capacity : goal.returns-in-BeginSync-clause-capacity
returns-in-BeginSync-clause-capacity g c = on_err c.pass-in-BeginSync.result
    (inside_may g.A.Actor.state g.A.Actor.saved_state g.A.Actor.thread c.args.self.now c.args.t g.A.Actor.is_reached c.args.event c.requires.here
    (ap cancelling c.in-BeginSync.is))

pub returns-in-EndSync-clause-capacity : goal.returns-in-EndSync-clause-capacity
returns-in-EndSync-clause-capacity g c = on_err c.pass-in-EndSync.result
    (inside_may g.A.Actor.state g.A.Actor.saved_state g.A.Actor.thread c.args.self.now c.args.t g.A.Actor.is_reached c.args.event c.requires.here
    (ap cancelling c.in-EndSync.is))

pub returns-in-BeginAtomic-clause-capacity : goal.returns-in-BeginAtomic-clause-capacity
returns-in-BeginAtomic-clause-capacity g c = on_err c.begin_inner.result
    (inside_may g.A.Actor.state g.A.Actor.saved_state g.A.Actor.thread c.args.self.now c.args.t g.A.Actor.is_reached c.args.event c.requires.here
    (ap cancelling c.in-BeginAtomic.is))

pub returns-in-EndAtomic-clause-capacity : goal.returns-in-EndAtomic-clause-capacity
returns-in-EndAtomic-clause-capacity g c = on_err c.end_atomic.result
    (inside_may g.A.Actor.state g.A.Actor.saved_state g.A.Actor.thread c.args.self.now c.args.t g.A.Actor.is_reached c.args.event c.requires.here
    (ap cancelling c.in-EndAtomic.is))

pub returns-in-Stop-clause-capacity : goal.returns-in-Stop-clause-capacity
returns-in-Stop-clause-capacity g c = on_err c.halt.result
    (inside_may g.A.Actor.state g.A.Actor.saved_state g.A.Actor.thread c.args.self.now c.args.t g.A.Actor.is_reached c.args.event c.requires.here
    (ap cancelling c.in-Stop.is))
