use Rattle.std.proofs.Common.{ap, sym, ◌∙◌}
use Rattle.tx_events.specs.declared.BlockKind.TheVariants.{Cancel}
use Rattle.tx_events.specs.declared.Event.TheVariants.{Raise}
use Rattle.tx_events.specs.declared.Reply.TheVariants.{Nothing}
use Rattle.tx_runtime.specs.View.{machine_in, layout_in}
use Rattle.tx_runtime.proofs.ThreadTables.{on_err}
use Rattle.tx_runtime.proofs.AppliedRow.{inside_row, if_ok}
use Rattle.tx_serial.specs.Turn.{raises}
use Rattle.tx_serial.specs.Shows.{kind_cancels}
use Rattle.tx_runtime.proofs.AllocationPoints.{inside_may}
use Rattle.tx_runtime.proofs.inside.Engine+A+A+Saved.raise.Goals as goal

pub returns-in-NoExcept-clause-turned : goal.returns-in-NoExcept-clause-turned
returns-in-NoExcept-clause-turned g c = if_ok c.halt.result
    (λ kind done answer. inside_row g.A.Actor.state g.A.Actor.saved_state g.A.Actor.is_reached g.A.Actor.thread c.args.self.now answer c.args.t
    (Raise c.args.kind c.args.cancels) _ c.requires.here
    (λ l at i. done ∙ ap (λ z. raises (layout_in c.args.self.now) c.args.t (machine_in g.A.Actor.state g.A.Actor.saved_state c.args.self.now) l
    (g.A.Actor.thread.after l.state Nothing) i.birth i.kept i.saves z c.args.cancels) (sym c.in-NoExcept.is))) c.halt.ensures.done

pub returns-in-Commit-clause-turned : goal.returns-in-Commit-clause-turned
returns-in-Commit-clause-turned g c = if_ok c.leave_block.result
    (λ kind done answer. inside_row g.A.Actor.state g.A.Actor.saved_state g.A.Actor.is_reached g.A.Actor.thread c.args.self.now answer c.args.t
    (Raise c.args.kind c.args.cancels) _ c.requires.here
    (λ l at i. done l i.birth i.kept i.saves at i.tx ∙ ap
    (λ z. raises (layout_in c.args.self.now) c.args.t (machine_in g.A.Actor.state g.A.Actor.saved_state c.args.self.now) l
    (g.A.Actor.thread.after l.state Nothing) i.birth i.kept i.saves z c.args.cancels) (sym c.in-Commit.is))) c.leave_block.ensures.done

pub returns-else-cancels-clause-turned : goal.returns-else-cancels-clause-turned
returns-else-cancels-clause-turned g c = if_ok c.halt-else-cancels.result
    (λ kind done answer. inside_row g.A.Actor.state g.A.Actor.saved_state g.A.Actor.is_reached g.A.Actor.thread c.args.self.now answer c.args.t
    (Raise c.args.kind c.args.cancels) _ c.requires.here
    (λ l at i. done ∙ (ap (λ z. raises (layout_in c.args.self.now) c.args.t (machine_in g.A.Actor.state g.A.Actor.saved_state c.args.self.now) l
    (g.A.Actor.thread.after l.state Nothing) i.birth i.kept i.saves Cancel z) (sym c.if-cancels.false)
    ∙ ap (λ z. raises (layout_in c.args.self.now) c.args.t (machine_in g.A.Actor.state g.A.Actor.saved_state c.args.self.now) l
    (g.A.Actor.thread.after l.state Nothing) i.birth i.kept i.saves z c.args.cancels) (sym c.in-Cancel.is)))) c.halt-else-cancels.ensures.done

pub returns-in-NoExcept-clause-capacity : goal.returns-in-NoExcept-clause-capacity
returns-in-NoExcept-clause-capacity g c = on_err c.halt.result
    (inside_may g.A.Actor.state g.A.Actor.saved_state g.A.Actor.thread c.args.self.now c.args.t g.A.Actor.is_reached
    (Raise c.args.kind c.args.cancels) c.requires.here (ap (λ z. kind_cancels z c.args.cancels) c.in-NoExcept.is))

pub returns-in-Commit-clause-capacity : goal.returns-in-Commit-clause-capacity
returns-in-Commit-clause-capacity g c = on_err c.leave_block.result
    (inside_may g.A.Actor.state g.A.Actor.saved_state g.A.Actor.thread c.args.self.now c.args.t g.A.Actor.is_reached
    (Raise c.args.kind c.args.cancels) c.requires.here (ap (λ z. kind_cancels z c.args.cancels) c.in-Commit.is))

pub returns-else-cancels-clause-capacity : goal.returns-else-cancels-clause-capacity
returns-else-cancels-clause-capacity g c = on_err c.halt-else-cancels.result
    (inside_may g.A.Actor.state g.A.Actor.saved_state g.A.Actor.thread c.args.self.now c.args.t g.A.Actor.is_reached
    (Raise c.args.kind c.args.cancels) c.requires.here (ap (λ z. kind_cancels z c.args.cancels) c.in-Cancel.is ∙ c.if-cancels.false))
