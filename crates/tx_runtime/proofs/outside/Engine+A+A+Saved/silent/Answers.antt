use Rattle.tx_events.specs.declared.Event.TheVariants.{Silent}
use Rattle.tx_runtime.proofs.AppliedRow.{outside_row, if_ok}
use Rattle.tx_runtime.proofs.outside.Engine+A+A+Saved.silent.Goals as goal

pub returns-clause-turned : goal.returns-clause-turned
returns-clause-turned g c = if_ok c.step_alone.result
    (λ kind done answer. outside_row g.A.Actor.state g.A.Actor.saved_state g.A.Actor.is_reached g.A.Actor.thread c.args.self.now answer c.args.t Silent _
    c.requires.here (λ l at is. done l at)) c.step_alone.ensures.done
