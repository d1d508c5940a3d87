use Rattle.tx_events.specs.declared.Event.TheVariants.{EndSync}
use Rattle.tx_runtime.specs.View.{machine_in, lock_of}
use Rattle.tx_runtime.proofs.AppliedRow.{outside_row}
use Rattle.tx_runtime.proofs.RowMachines.{with_lock}
use Rattle.tx_runtime.proofs.outside.Engine+A+A+Saved.end_sync.Goals as goal

pub returns-clause-turned : goal.returns-clause-turned
returns-clause-turned g c =
    λ answer. outside_row g.A.Actor.state g.A.Actor.saved_state g.A.Actor.is_reached g.A.Actor.thread c.args.self.now answer c.args.t EndSync _ c.requires.here
    (λ l at is. with_lock (machine_in g.A.Actor.state g.A.Actor.saved_state c.step_in_order.new.self) c.in_ok-kind.kind _ (lock_of c.leave-left.result) _
    (c.in_ok-kind.ensures.done l at) c.leave-left.ensures)
