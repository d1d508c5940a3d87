use Rattle.std.proofs.Common.{◌<◌, ◌^◌, ◌*◌, sym, ◌∙◌, subst}
use Rattle.tx_events.specs.declared.Event.TheVariants.{Load}
use Rattle.tx_events.specs.declared.Reply.TheVariants.{Loaded}
use Rattle.tx_events.specs.Memory.{word_of}
use Rattle.tx_events.proofs.WordLemmas.{read_fits}
use Rattle.tx_memory.specs.View.{words_of}
use Rattle.tx_runtime.specs.View.{machine_in, layout_in}
use Rattle.tx_runtime.proofs.ThreadTables.{started_thread}
use Rattle.tx_runtime.proofs.AccessSizes.{load_fits}
use Rattle.tx_runtime.proofs.OutsideRows.{loaded_none, loaded_some, load_traps, load_waits, load_done}
use Rattle.tx_runtime.proofs.AppliedRow.{outside_row, if_ok, answers_at}
use Rattle.tx_runtime.proofs.outside.Engine+A+A+Saved.load_outside.Goals as goal

pub load-requires : goal.load-requires
load-requires g c =
    let there = started_thread g.A.Actor.state g.A.Actor.saved_state c.args.self.now c.args.t c.requires.here.1.started in
    let is = c.requires.here.1.at there.0 there.1 in
    load_fits g.met.A.Actor.laws there.0.state is.reached c.args.addr c.args.size c.requires.here.0 is.next

pub returns-in_default-clause-turned : goal.returns-in_default-clause-turned
returns-in_default-clause-turned g c = if_ok c.halt.result
    (λ kind done answer. outside_row g.A.Actor.state g.A.Actor.saved_state g.A.Actor.is_reached g.A.Actor.thread c.args.self.now answer c.args.t
    (Load c.args.addr c.args.size c.requires.here.0) _ c.requires.here.1
    (λ l at is. done ∙ load_traps g.A.Actor.thread (layout_in c.args.self.now) c.args.t
    (machine_in g.A.Actor.state g.A.Actor.saved_state c.args.self.now) l c.args.addr c.args.size c.requires.here.0
    (loaded_none _ _ _ c.load.ensures.value c.in_default.is))) c.halt.ensures.done

pub step_in_order-requires-clause-answers : goal.step_in_order-requires-clause-answers
step_in_order-requires-clause-answers g c = λ l at.
    let is = c.requires.here.1.at l at in
    let value = (loaded_some _ _ _ _ c.load.ensures.value c.in-Some.is).1 in
    answers_at g.A.Actor.thread l.state (Load c.args.addr c.args.size c.requires.here.0) (Loaded c.in-Some.value) is.next
    (subst (λ v. v < 2 ^ (8 * c.args.size)) (sym value) (read_fits c.args.addr c.args.size (words_of c.args.self.now.memory (word_of c.args.addr))))

pub returns-in-Some-blockers-clause-turned : goal.returns-in-Some-blockers-clause-turned
returns-in-Some-blockers-clause-turned g c =
    λ answer. outside_row g.A.Actor.state g.A.Actor.saved_state g.A.Actor.is_reached g.A.Actor.thread c.args.self.now answer c.args.t
    (Load c.args.addr c.args.size c.requires.here.0) _ c.requires.here.1
    (λ l at is. c.wait.ensures.done ∙ load_waits g.A.Actor.thread (layout_in c.args.self.now) c.args.t
    (machine_in g.A.Actor.state g.A.Actor.saved_state c.args.self.now) l c.args.addr c.args.size c.word_of-word.result c.in-Some-blockers.blockers.eldest
    c.requires.here.0 (loaded_some _ _ _ _ c.load.ensures.value c.in-Some.is).0 c.word_of-word.ensures c.in-Some-blockers.ensures.eldest)

pub returns-in-None-clause-turned : goal.returns-in-None-clause-turned
returns-in-None-clause-turned g c = if_ok c.step_in_order.result
    (λ kind done answer. outside_row g.A.Actor.state g.A.Actor.saved_state g.A.Actor.is_reached g.A.Actor.thread c.args.self.now answer c.args.t
    (Load c.args.addr c.args.size c.requires.here.0) _ c.requires.here.1
    (λ l at is.
    let got = loaded_some _ _ _ _ c.load.ensures.value c.in-Some.is in
    done l at ∙ load_done g.A.Actor.thread (layout_in c.args.self.now) c.args.t
    (machine_in g.A.Actor.state g.A.Actor.saved_state c.args.self.now) l c.args.addr c.args.size c.word_of-word.result c.in-Some.value c.requires.here.0
    got.0 c.word_of-word.ensures c.in-None.ensures.eldest got.1)) c.step_in_order.ensures.done
