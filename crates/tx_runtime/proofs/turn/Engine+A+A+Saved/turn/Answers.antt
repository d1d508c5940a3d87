use Rattle.tx_runtime.proofs.ThreadTables.{on_err}
use Rattle.tx_runtime.proofs.AllocationPoints.{outside_may}
use Rattle.tx_runtime.proofs.turn.Engine+A+A+Saved.turn.Goals as goal

pub returns-in-Outside-clause-capacity : goal.returns-in-Outside-clause-capacity
returns-in-Outside-clause-capacity g c = on_err c.turn_outside.result
    (outside_may g.A.Actor.state g.A.Actor.saved_state g.A.Actor.thread c.args.self.now c.args.t g.A.Actor.is_reached c.in-Outside.event c.in-Outside.ensures)
