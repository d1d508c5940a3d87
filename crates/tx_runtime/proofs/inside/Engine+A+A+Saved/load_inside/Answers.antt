use Rattle.std.proofs.Common.{ap, sym, ◌∙◌, refl, false, inl, inr}
use Rattle.tx_events.specs.declared.Event.TheVariants.{Load}
use Rattle.tx_serial.specs.Machine.{blocker}
use Rattle.tx_runtime.specs.View.{machine_in, layout_in}
use Rattle.tx_runtime.proofs.ThreadTables.{started_thread}
use Rattle.tx_runtime.proofs.AccessSizes.{load_fits}
use Rattle.tx_runtime.proofs.InsideRows.{load_traps_in}
use Rattle.tx_runtime.proofs.OutsideRows.{loaded_none, loaded_some}
use Rattle.tx_runtime.proofs.AppliedRow.{inside_row, if_ok}
use Rattle.tx_runtime.proofs.PolicyAnswers.{load_free, unasked}
use Rattle.tx_runtime.proofs.inside.Engine+A+A+Saved.load_inside.Goals as goal

pub load-requires : goal.load-requires
load-requires g c =
    let self = c.args.self.now in
    let m = machine_in g.A.Actor.state g.A.Actor.saved_state self in
    let there = started_thread g.A.Actor.state g.A.Actor.saved_state self c.args.t c.requires.here.1.started in
    let is = c.requires.here.1.at there.0 there.1 in
    load_fits g.met.A.Actor.laws there.0.state is.reached c.args.addr c.args.size c.requires.here.0 is.next

pub returns-in_default-clause-chosen : goal.returns-in_default-clause-chosen
returns-in_default-clause-chosen g c = if_ok c.halt.result (λ kind done.
    let self = c.args.self.now in
    let m = machine_in g.A.Actor.state g.A.Actor.saved_state self in
    let there = started_thread g.A.Actor.state g.A.Actor.saved_state self c.args.t c.requires.here.1.started in
    let is = c.requires.here.1.at there.0 there.1 in
    let none = loaded_none _ _ _ c.load.ensures.value c.in_default.is in
    unasked g.A.Actor.thread (layout_in self) c.args.t m _ _ kind _
    (load_free g.A.Actor.thread (layout_in self) c.args.t m there.0 c.args.addr c.args.size c.requires.here.0 there.1 is.next (inl none))
    (λ answer. inside_row g.A.Actor.state g.A.Actor.saved_state g.A.Actor.is_reached g.A.Actor.thread c.args.self.now answer c.args.t
    (Load c.args.addr c.args.size c.requires.here.0) _ c.requires.here.1
    (λ l at i. done ∙ load_traps_in g.A.Actor.thread (layout_in c.args.self.now) answer c.args.t
    (machine_in g.A.Actor.state g.A.Actor.saved_state c.args.self.now) l i.birth i.kept i.saves c.args.addr c.args.size c.requires.here.0 none)))
    c.halt.ensures.done

pub returns-in-None-clause-chosen : goal.returns-in-None-clause-chosen
returns-in-None-clause-chosen g c = if_ok c.read_inside.result (λ kind turned.
    let self = c.args.self.now in
    let m = machine_in g.A.Actor.state g.A.Actor.saved_state self in
    let there = started_thread g.A.Actor.state g.A.Actor.saved_state self c.args.t c.requires.here.1.started in
    let is = c.requires.here.1.at there.0 there.1 in
    let free = ap (λ x. blocker c.args.t false x m) (sym c.word_of-word.ensures) ∙ c.in-None.ensures.eldest in
    unasked g.A.Actor.thread (layout_in self) c.args.t m _ _ kind _
    (load_free g.A.Actor.thread (layout_in self) c.args.t m there.0 c.args.addr c.args.size c.requires.here.0 there.1 is.next
    (inr free)) turned) c.read_inside.ensures.turned

pub read_inside-requires-clause-here : goal.read_inside-requires-clause-here
read_inside-requires-clause-here g c =
    let got = loaded_some _ _ _ _ c.load.ensures.value c.in-Some.is in
    (c.args.size, c.requires.here.0, got.1, got.0, c.requires.here.1)

pub read_inside-requires-clause-free : goal.read_inside-requires-clause-free
read_inside-requires-clause-free g c = ap (λ x. blocker c.args.t false x (machine_in g.A.Actor.state g.A.Actor.saved_state c.args.self.now))
    (sym c.word_of-word.ensures) ∙ c.in-None.ensures.eldest

pub clash-requires-clause-here : goal.clash-requires-clause-here
clash-requires-clause-here g c =
    let got = loaded_some _ _ _ _ c.load.ensures.value c.in-Some.is in
    (Load c.args.addr c.args.size c.requires.here.0, false, c.requires.here.1, (got.0, refl, c.word_of-word.ensures), c.in-Some-blockers.ensures)
