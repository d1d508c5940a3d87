use Rattle.std.proofs.Common.{◌&&◌, ap, ◌∙◌, arith}
use Rattle.tx_runtime.specs.View.{machine_in, layout_in}
use Rattle.tx_serial.specs.Kinds.{is_ran}
use Rattle.tx_runtime.proofs.CounterBounds.{births_rise, depth_rises}
use Rattle.tx_runtime.proofs.RuntimeViews.{flag_set, carried}
use Rattle.tx_runtime.proofs.runtime.Runtime.turn.Goals as goal

pub returns-clause-keeps_order : goal.returns-clause-keeps_order
returns-clause-keeps_order g c =
    let e = c.args.self.now.engine in
    carried g.A.Actor.thread (layout_in e) g.A.Actor.is_reached _ _ c.args.t
    (machine_in g.A.Actor.state g.A.Actor.saved_state e) _ c.in_ok-kind.kind g.met.A.Actor.laws
    (omega (arith, e.whole.fits, e.whole.few)) c.in_ok-kind.ensures.chosen

pub returns-clause-inside : goal.returns-clause-inside
returns-clause-inside g c = flag_set c.args.self.now.inside.items c.args.t c.is_inside.result _ (omega (arith, c.requires.number, c.args.self.now.flags))
    (c.is_inside.ensures ∙ ap (λ b. is_ran c.in_ok-kind.kind && b) c.accesses_inside-accesses.ensures)

pub returns-clause-births : goal.returns-clause-births
returns-clause-births g c =
    let e = c.args.self.now.engine in
    births_rise g.A.Actor.thread (layout_in e) c.args.t (machine_in g.A.Actor.state g.A.Actor.saved_state e)
    (λ _. c.in_ok-kind.ensures.chosen.choice) c.in_ok-kind.kind _ c.in_ok-kind.ensures.chosen.turned

pub returns-clause-depth : goal.returns-clause-depth
returns-clause-depth g c =
    let e = c.args.self.now.engine in
    depth_rises g.A.Actor.thread (layout_in e) c.args.t (machine_in g.A.Actor.state g.A.Actor.saved_state e)
    (λ _. c.in_ok-kind.ensures.chosen.choice) c.in_ok-kind.kind _ c.in_ok-kind.ensures.chosen.turned
