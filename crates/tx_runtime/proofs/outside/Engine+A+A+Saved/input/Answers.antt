use Rattle.std.proofs.Common.{ap, ◌∙◌}
use Rattle.tx_events.specs.declared.Event.TheVariants.{Inp}
use Rattle.tx_events.specs.declared.Reply.{Reply}
use Rattle.tx_events.specs.declared.TurnKind.TheVariants.{Ran}
use Rattle.tx_events.specs.World.{input_after}
use Rattle.tx_serial.specs.Turn.{order_gains, steps}
use Rattle.tx_runtime.specs.View.{machine_in, left_of}
use Rattle.tx_runtime.proofs.AppliedRow.{outside_row}
use Rattle.tx_runtime.proofs.RowMachines.{with_input}
use Rattle.tx_runtime.proofs.outside.Engine+A+A+Saved.input.Goals as goal

pub returns-clause-turned : goal.returns-clause-turned
returns-clause-turned g c =
    λ answer. outside_row g.A.Actor.state g.A.Actor.saved_state g.A.Actor.is_reached g.A.Actor.thread c.args.self.now answer c.args.t Inp _ c.requires.here
    (λ l at is.
    let m = machine_in g.A.Actor.state g.A.Actor.saved_state c.args.self.now in
    let q = machine_in g.A.Actor.state g.A.Actor.saved_state c.step_in_order.new.self in
    with_input q c.in_ok-kind.kind _ (left_of c.advance.new.self) (c.in_ok-kind.ensures.done l at) c.advance.ensures
    ∙ ap (λ (v : Reply). record {
      machine = record (order_gains c.args.t (steps c.args.t m (record l { state = g.A.Actor.thread.after l.state v }))) {
        input =
            input_after m.input;
      };
      kind = Ran;
    }) c.reply-reply.ensures)
