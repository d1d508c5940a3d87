use Rattle.std.proofs.Common.{◌++◌, ◌∷◌, [], ap, ◌∙◌}
use Rattle.tx_events.specs.declared.Event.TheVariants.{Out}
use Rattle.tx_events.specs.declared.Reply.TheVariants.{Nothing}
use Rattle.tx_runtime.specs.View.{machine_in}
use Rattle.tx_runtime.proofs.AppliedRow.{outside_row}
use Rattle.tx_runtime.proofs.RowMachines.{out_row}
use Rattle.tx_runtime.proofs.outside.Engine+A+A+Saved.output.Goals as goal

pub returns-clause-turned : goal.returns-clause-turned
returns-clause-turned g c = λ answer. outside_row g.A.Actor.state g.A.Actor.saved_state g.A.Actor.is_reached g.A.Actor.thread c.args.self.now answer c.args.t
    (Out c.args.byte) _ c.requires.here
    (λ l at is.
    let q = machine_in g.A.Actor.state g.A.Actor.saved_state c.ready.new.self in
    out_row c.args.t c.args.byte q (machine_in g.A.Actor.state g.A.Actor.saved_state c.args.self.now) _
    (record l { state = g.A.Actor.thread.after l.state Nothing }) c.push_reserved.new.self.items c.push_reserved-2.new.self.items
    c.in_ok-ready.ensures.same
    (c.push_reserved.ensures.items ∙ ap (λ xs. xs ++ c.args.t ∷ []) c.reserve.ensures.items)
    (c.push_reserved-2.ensures.items ∙ ap (λ xs. xs ++ c.args.byte ∷ []) c.reserve-2.ensures.items)
    (c.step.ensures.done l (ap (λ z. z.threads c.args.t) c.in_ok-ready.ensures.same ∙ at)))
