use Rattle.std.proofs.Common.{◌<◌, ◌++◌, ◌∷◌, [], length, ap, ◌∙◌, refl, true}
use Rattle.tx_events.specs.declared.Event.TheVariants.{Done}
use Rattle.tx_events.specs.declared.Reply.TheVariants.{Nothing}
use Rattle.tx_memory.specs.View.{layout_of}
use Rattle.tx_serial.specs.Machine.{Local}
use Rattle.tx_runtime.specs.Threads.{local_of}
use Rattle.tx_runtime.specs.View.{machine_in}
use Rattle.tx_runtime.proofs.ThreadTables.{stepped, same_holds, whole_set, whole_sound}
use Rattle.tx_runtime.proofs.AppliedRow.{outside_row, started_in, at_in, answers_at}
use Rattle.tx_runtime.proofs.RowMachines.{order_gains_row}
use Rattle.tx_runtime.proofs.outside.Engine+A+A+Saved.finish.Goals as goal

pub finish-requires-clause-answers : goal.finish-requires-clause-answers
finish-requires-clause-answers g c =
    let q = c.ready.new.self in
    let m = machine_in g.A.Actor.state g.A.Actor.saved_state c.args.self.now in
    let s = c.index_mut-thread.result.now in
    let same = c.in_ok-ready.ensures.same in
    let h : c.args.t < length q.threads.items = started_in g.A.Actor.state g.A.Actor.saved_state q m c.args.t same c.requires.here.started in
    answers_at g.A.Actor.thread (g.A.Actor.state s.actor) Done Nothing
    (c.requires.here.at (local_of g.A.Actor.state g.A.Actor.saved_state q.holders c.args.t s)
    (at_in g.A.Actor.state g.A.Actor.saved_state q m c.args.t s same h c.index_mut-thread.ensures.value)).next refl

pub invariant_of-self-2 : goal.invariant_of-self-2
invariant_of-self-2 g c =
    let q = c.ready.new.self in
    let m = machine_in g.A.Actor.state g.A.Actor.saved_state c.args.self.now in
    let p = layout_of q.memory in
    let h : c.args.t < length q.threads.items =
    started_in g.A.Actor.state g.A.Actor.saved_state q m c.args.t c.in_ok-ready.ensures.same c.requires.here.started in
    record {
      whole = whole_set p q.limit q.holders q.threads.items c.args.t c.finish.new.self q.whole
          (c.finish.ensures.sound p
          ∙ whole_sound p q.limit q.holders q.threads.items c.args.t c.index_mut-thread.result.now q.whole h c.index_mut-thread.ensures.value);
    }

pub returns-clause-turned : goal.returns-clause-turned
returns-clause-turned g c =
    λ answer. outside_row g.A.Actor.state g.A.Actor.saved_state g.A.Actor.is_reached g.A.Actor.thread c.args.self.now answer c.args.t Done _ c.requires.here
    (λ l at is.
    let r = c.args.self.now in
    let q = c.ready.new.self in
    let m = machine_in g.A.Actor.state g.A.Actor.saved_state r in
    let n = machine_in g.A.Actor.state g.A.Actor.saved_state q in
    let s = c.index_mut-thread.result.now in
    let same = c.in_ok-ready.ensures.same in
    let h : c.args.t < length q.threads.items = started_in g.A.Actor.state g.A.Actor.saved_state q m c.args.t same c.requires.here.started in
    order_gains_row c.args.t n m _ (record l { state = g.A.Actor.thread.after l.state Nothing; ended = true }) c.push_reserved.new.self.items same
    (c.push_reserved.ensures.items ∙ ap (λ xs. xs ++ c.args.t ∷ []) c.reserve.ensures.items)
    (stepped g.A.Actor.state g.A.Actor.saved_state (record n {
      order =
          c.push_reserved.new.self.items;
    }) q.holders q.holders q.threads.items c.args.t s c.finish.new.self l
    (λ (v : Local g.A.Actor.State). record v { state = g.A.Actor.thread.after v.state Nothing; ended = true }) refl refl refl h c.index_mut-thread.ensures.value
    (ap (λ z. z.threads c.args.t) same ∙ at) (same_holds c.args.t q.holders) (c.finish.ensures.local q.holders c.args.t) c.finish.ensures.waits))
