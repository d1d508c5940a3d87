use Rattle.std.proofs.Common.{ap, sym, ◌∙◌, inl, inr}
use Rattle.tx_runtime.specs.View.{machine_in, layout_in}
use Rattle.tx_runtime.proofs.AppliedRow.{if_ok}
use Rattle.tx_runtime.proofs.AppliedRow.{outside_row}
use Rattle.tx_serial.specs.Turn.{out_does}
use Rattle.tx_runtime.proofs.turn.Engine+A+A+Saved.turn_outside.Goals as goal

pub returns-in-Stop-clause-turned : goal.returns-in-Stop-clause-turned
returns-in-Stop-clause-turned g c = if_ok c.halt.result (λ kind done answer.
    outside_row g.A.Actor.state g.A.Actor.saved_state g.A.Actor.is_reached g.A.Actor.thread c.args.self.now answer c.args.t c.args.event _ c.requires.here
    (λ l at i. done ∙ ap (out_does g.A.Actor.thread (layout_in c.args.self.now) c.args.t (machine_in g.A.Actor.state g.A.Actor.saved_state c.args.self.now) l)
    (sym c.in-Stop.is))) c.halt.ensures.done

pub returns-in-EndAtomic-clause-turned : goal.returns-in-EndAtomic-clause-turned
returns-in-EndAtomic-clause-turned g c answer =
    outside_row g.A.Actor.state g.A.Actor.saved_state g.A.Actor.is_reached g.A.Actor.thread c.args.self.now answer c.args.t c.args.event _ c.requires.here
    (λ l at i. elim (c.in-EndAtomic.is) [
      | inl h ↦ ap (out_does g.A.Actor.thread (layout_in c.args.self.now) c.args.t (machine_in g.A.Actor.state g.A.Actor.saved_state c.args.self.now) l) (sym h)
      | inr h ↦ ap (out_does g.A.Actor.thread (layout_in c.args.self.now) c.args.t (machine_in g.A.Actor.state g.A.Actor.saved_state c.args.self.now) l)
          (sym h.2)
    ])
