use Rattle.std.proofs.Common.{◌∙◌}
use Rattle.tx_events.specs.declared.Event.TheVariants.{BeginAtomic}
use Rattle.tx_runtime.specs.View.{machine_in, layout_in}
use Rattle.tx_runtime.proofs.OutsideRows.{begin_waits, begin_done}
use Rattle.tx_runtime.proofs.AppliedRow.{outside_row, if_ok}
use Rattle.tx_runtime.proofs.outside.Engine+A+A+Saved.begin_outermost.Goals as goal

pub returns-in-Some-clause-turned : goal.returns-in-Some-clause-turned
returns-in-Some-clause-turned g c =
    λ answer. outside_row g.A.Actor.state g.A.Actor.saved_state g.A.Actor.is_reached g.A.Actor.thread c.args.self.now answer c.args.t
    (BeginAtomic c.requires.here.0) _ c.requires.here.1
    (λ l at is. begin_waits g.A.Actor.thread (layout_in c.args.self.now) c.args.t
    (machine_in g.A.Actor.state g.A.Actor.saved_state c.args.self.now) l c.requires.here.0 c.in-Some.holder c.in-Some.ensures)

pub returns-clause-turned : goal.returns-clause-turned
returns-clause-turned g c = if_ok c.begin_block.result
    (λ kind done answer. outside_row g.A.Actor.state g.A.Actor.saved_state g.A.Actor.is_reached g.A.Actor.thread c.args.self.now answer c.args.t
    (BeginAtomic c.requires.here.0) _ c.requires.here.1
    (λ l at is. done l at ∙ begin_done g.A.Actor.thread (layout_in c.args.self.now) c.args.t
    (machine_in g.A.Actor.state g.A.Actor.saved_state c.args.self.now) l c.requires.here.0 c.in_default.ensures)) c.begin_block.ensures.done
