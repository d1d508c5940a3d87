use Rattle.std.proofs.Common.{◌∙◌}
use Rattle.tx_events.specs.declared.Event.TheVariants.{BeginSync}
use Rattle.tx_runtime.specs.View.{machine_in, layout_in, lock_of}
use Rattle.tx_runtime.proofs.OutsideRows.{sync_waits, sync_busy, sync_done}
use Rattle.tx_runtime.proofs.AppliedRow.{outside_row}
use Rattle.tx_runtime.proofs.RowMachines.{with_lock}
use Rattle.tx_runtime.proofs.outside.Engine+A+A+Saved.begin_sync.Goals as goal

pub returns-in-Some-clause-turned : goal.returns-in-Some-clause-turned
returns-in-Some-clause-turned g c = λ answer. outside_row g.A.Actor.state g.A.Actor.saved_state g.A.Actor.is_reached g.A.Actor.thread c.args.self.now answer
    c.args.t BeginSync _ c.requires.here (λ l at is. sync_waits g.A.Actor.thread (layout_in c.args.self.now) c.args.t
    (machine_in g.A.Actor.state g.A.Actor.saved_state c.args.self.now) l c.in-Some.holder c.in-Some.ensures)

pub returns-in-Some-busy-clause-turned : goal.returns-in-Some-busy-clause-turned
returns-in-Some-busy-clause-turned g c = λ answer. outside_row g.A.Actor.state g.A.Actor.saved_state g.A.Actor.is_reached g.A.Actor.thread c.args.self.now
    answer c.args.t BeginSync _ c.requires.here (λ l at is. sync_busy g.A.Actor.thread (layout_in c.args.self.now) c.args.t
    (machine_in g.A.Actor.state g.A.Actor.saved_state c.args.self.now) l c.in-Some-busy.holder c.in_default.ensures c.in-Some-busy.ensures)

pub returns-clause-turned : goal.returns-clause-turned
returns-clause-turned g c = λ answer. outside_row g.A.Actor.state g.A.Actor.saved_state g.A.Actor.is_reached g.A.Actor.thread c.args.self.now answer c.args.t
    BeginSync _ c.requires.here
    (λ l at is. with_lock (machine_in g.A.Actor.state g.A.Actor.saved_state c.step_in_order.new.self) c.in_ok-kind.kind _ (lock_of c.enter-entered.result) _
    (c.in_ok-kind.ensures.done l at) c.enter-entered.ensures
    ∙ sync_done g.A.Actor.thread (layout_in c.args.self.now) c.args.t
    (machine_in g.A.Actor.state g.A.Actor.saved_state c.args.self.now) l c.in_default.ensures c.in_default-busy.ensures)
