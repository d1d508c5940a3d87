use Rattle.std.proofs.Common.{ap}
use Rattle.tx_runtime.specs.View.{machine_in, layout_in}
use Rattle.tx_runtime.proofs.ThreadTables.{started_thread, on_err}
use Rattle.tx_runtime.proofs.AppliedRow.{if_ok}
use Rattle.tx_runtime.proofs.PolicyAnswers.{unasked}
use Rattle.tx_runtime.proofs.StandingThreads.{not_access}
use Rattle.tx_runtime.proofs.PolicyAnswers.{alone_free}
use Rattle.tx_serial.specs.Shows.{cancelling}
use Rattle.tx_runtime.proofs.AllocationPoints.{inside_may}
use Rattle.tx_runtime.proofs.turn.Engine+A+A+Saved.turn_inside.Goals as goal

pub returns-in_default-clause-chosen : goal.returns-in_default-clause-chosen
returns-in_default-clause-chosen g c = if_ok c.turn_alone.result (λ kind turned.
    let self = c.args.self.now in
    let m = machine_in g.A.Actor.state g.A.Actor.saved_state self in
    let there = started_thread g.A.Actor.state g.A.Actor.saved_state self c.args.t c.requires.here.started in
    let is = c.requires.here.at there.0 there.1 in
    unasked g.A.Actor.thread (layout_in self) c.args.t m _ _ kind _
    (alone_free g.A.Actor.thread (layout_in self) c.args.t m there.0 c.args.event there.1 is.next
    (not_access c.args.event c.in_default.not-Load c.in_default.not-Store)) turned) c.turn_alone.ensures.turned

pub returns-in-Load-clause-capacity : goal.returns-in-Load-clause-capacity
returns-in-Load-clause-capacity g c = on_err c.load_inside.result
    (inside_may g.A.Actor.state g.A.Actor.saved_state g.A.Actor.thread c.args.self.now c.args.t g.A.Actor.is_reached c.args.event c.requires.here
    (ap cancelling c.in-Load.is))

pub returns-in-Store-clause-capacity : goal.returns-in-Store-clause-capacity
returns-in-Store-clause-capacity g c = on_err c.store_inside.result
    (inside_may g.A.Actor.state g.A.Actor.saved_state g.A.Actor.thread c.args.self.now c.args.t g.A.Actor.is_reached c.args.event c.requires.here
    (ap cancelling c.in-Store.is))
