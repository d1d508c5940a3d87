use Rattle.std.proofs.Common.{ap, sym, ◌∙◌, None, true}
use Rattle.tx_events.specs.declared.Event.TheVariants.{Store}
use Rattle.tx_serial.specs.Machine.{blocker}
use Rattle.tx_runtime.specs.View.{machine_in, layout_in}
use Rattle.tx_runtime.proofs.ThreadTables.{started_thread}
use Rattle.tx_runtime.proofs.AccessSizes.{store_fits}
use Rattle.tx_runtime.proofs.OutsideRows.{loaded_none, loaded_some, store_traps, store_goes, store_waits}
use Rattle.tx_runtime.proofs.AppliedRow.{outside_row, if_ok}
use Rattle.tx_runtime.proofs.outside.Engine+A+A+Saved.store_outside.Goals as goal

pub load-requires : goal.load-requires
load-requires g c =
    let there = started_thread g.A.Actor.state g.A.Actor.saved_state c.args.self.now c.args.t c.requires.here.1.started in
    let is = c.requires.here.1.at there.0 there.1 in
    (store_fits g.met.A.Actor.laws there.0.state is.reached c.args.addr c.args.size c.args.value c.requires.here.0 is.next).0

pub returns-in_default-clause-turned : goal.returns-in_default-clause-turned
returns-in_default-clause-turned g c = if_ok c.halt.result
    (λ kind done answer. outside_row g.A.Actor.state g.A.Actor.saved_state g.A.Actor.is_reached g.A.Actor.thread c.args.self.now answer c.args.t
    (Store c.args.addr c.args.size c.args.value c.requires.here.0) _ c.requires.here.1
    (λ l at is. done ∙ store_traps g.A.Actor.thread (layout_in c.args.self.now) c.args.t
    (machine_in g.A.Actor.state g.A.Actor.saved_state c.args.self.now) l c.args.addr c.args.size c.args.value c.requires.here.0
    (loaded_none _ _ _ c.load.ensures.value c.in_default.is))) c.halt.ensures.done

pub returns-in-Some-blockers-clause-turned : goal.returns-in-Some-blockers-clause-turned
returns-in-Some-blockers-clause-turned g c =
    λ answer. outside_row g.A.Actor.state g.A.Actor.saved_state g.A.Actor.is_reached g.A.Actor.thread c.args.self.now answer c.args.t
    (Store c.args.addr c.args.size c.args.value c.requires.here.0) _ c.requires.here.1
    (λ l at is. c.wait.ensures.done ∙ store_waits g.A.Actor.thread (layout_in c.args.self.now) c.args.t
    (machine_in g.A.Actor.state g.A.Actor.saved_state c.args.self.now) l c.args.addr c.args.size c.args.value c.word_of-word.result
    c.in-Some-blockers.blockers.eldest c.requires.here.0
    (loaded_some _ _ _ _ c.load.ensures.value c.in-Some.is).0 c.word_of-word.ensures c.in-Some-blockers.ensures.eldest)

pub returns-in-None-clause-turned : goal.returns-in-None-clause-turned
returns-in-None-clause-turned g c = if_ok c.write_outside.result
    (λ kind done answer. outside_row g.A.Actor.state g.A.Actor.saved_state g.A.Actor.is_reached g.A.Actor.thread c.args.self.now answer c.args.t
    (Store c.args.addr c.args.size c.args.value c.requires.here.0) _ c.requires.here.1
    (λ l at is.
    let got = loaded_some _ _ _ _ c.load.ensures.value c.in-Some.is in
    done l at ∙ store_goes g.A.Actor.thread (layout_in c.args.self.now) c.args.t
    (machine_in g.A.Actor.state g.A.Actor.saved_state c.args.self.now) l c.args.addr c.args.size c.args.value c.requires.here.0 None got.0
    (ap (λ x. blocker c.args.t true x (machine_in g.A.Actor.state g.A.Actor.saved_state c.args.self.now)) (sym c.word_of-word.ensures)
    ∙ c.in-None.ensures.eldest))) c.write_outside.ensures.done
