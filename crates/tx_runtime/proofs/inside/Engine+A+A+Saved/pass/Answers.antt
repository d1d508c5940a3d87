use Rattle.std.proofs.Common.{◌∙◌}
use Rattle.tx_events.specs.declared.Reply.TheVariants.{Nothing}
use Rattle.tx_runtime.specs.View.{machine_in, layout_in}
use Rattle.tx_runtime.proofs.InsideRows.{passes_row, passing_answer}
use Rattle.tx_runtime.proofs.AppliedRow.{inside_row, if_ok, answers_at}
use Rattle.tx_runtime.proofs.inside.Engine+A+A+Saved.pass.Goals as goal

pub step_alone-requires-clause-answers : goal.step_alone-requires-clause-answers
step_alone-requires-clause-answers g c = λ l at.
    let h = c.requires.here in
    answers_at g.A.Actor.thread l.state h.event Nothing (h.here.at l at).next (passing_answer h.event h.passes)

pub returns-clause-turned : goal.returns-clause-turned
returns-clause-turned g c = if_ok c.step_alone.result
    (λ kind done answer. inside_row g.A.Actor.state g.A.Actor.saved_state g.A.Actor.is_reached g.A.Actor.thread c.args.self.now answer c.args.t
    c.requires.here.event _ c.requires.here.here
    (λ l at i. done l at ∙ passes_row g.A.Actor.thread (layout_in c.args.self.now) answer c.args.t
    (machine_in g.A.Actor.state g.A.Actor.saved_state c.args.self.now) l i.birth i.kept i.saves c.requires.here.event c.requires.here.passes i.tx))
    c.step_alone.ensures.done
