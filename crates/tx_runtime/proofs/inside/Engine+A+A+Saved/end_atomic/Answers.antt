use Rattle.tx_events.specs.declared.Event.TheVariants.{EndAtomic}
use Rattle.tx_runtime.proofs.AppliedRow.{inside_row, if_ok}
use Rattle.tx_runtime.proofs.inside.Engine+A+A+Saved.end_atomic.Goals as goal

pub returns-clause-turned : goal.returns-clause-turned
returns-clause-turned g c = if_ok c.leave_block.result
    (λ kind done answer. inside_row g.A.Actor.state g.A.Actor.saved_state g.A.Actor.is_reached g.A.Actor.thread c.args.self.now answer c.args.t EndAtomic _
    c.requires.here (λ l at i. done l i.birth i.kept i.saves at i.tx)) c.leave_block.ensures.done
