use Rattle.std.proofs.Common.{◌<◌, ◌∷◌, [], length, ap, ◌∙◌, refl}
use Rattle.std.proofs.Math.ListN.{set, length-set}
use Rattle.tx_events.specs.declared.Event.TheVariants.{BeginAtomic}
use Rattle.tx_events.specs.declared.Reply.TheVariants.{Nothing}
use Rattle.tx_memory.specs.View.{layout_of}
use Rattle.tx_serial.specs.Machine.{Local, OpenTx, no_save}
use Rattle.tx_runtime.specs.Threads.{local_of, threads_of, waits_by}
use Rattle.tx_runtime.specs.View.{machine_in}
use Rattle.tx_runtime.proofs.ThreadTables.{same_thread, same_waits, on_err, changed, stepped, same_holds, whole_set, whole_sound}
use Rattle.tx_runtime.proofs.SlotLemmas.{idle_log}
use Rattle.tx_runtime.proofs.AppliedRow.{started_in, at_in, answers_at}
use Rattle.tx_runtime.proofs.RowMachines.{begin_row}
use Rattle.tx_runtime.proofs.outside.Engine+A+A+Saved.begin_block.Goals as goal

pub begin-requires-clause-answers : goal.begin-requires-clause-answers
begin-requires-clause-answers g c =
    let q = c.ready_to_note.new.self in
    let m = machine_in g.A.Actor.state g.A.Actor.saved_state c.args.self.now in
    let s = c.index_mut-thread.result.now in
    let same = c.in_ok-ready_to_note.ensures.same in
    let h : c.args.t < length q.threads.items = started_in g.A.Actor.state g.A.Actor.saved_state q m c.args.t same c.requires.here.1.started in
    let is = c.requires.here.1.at (local_of g.A.Actor.state g.A.Actor.saved_state q.holders c.args.t s)
    (at_in g.A.Actor.state g.A.Actor.saved_state q m c.args.t s same h c.index_mut-thread.ensures.value) in
    let p = layout_of q.memory in
    let sound = whole_sound p q.limit q.holders q.threads.items c.args.t s q.whole h c.index_mut-thread.ensures.value in
    answers_at g.A.Actor.thread (g.A.Actor.state s.actor) (BeginAtomic c.requires.here.0) Nothing is.next refl

pub begin-requires-clause-notes : goal.begin-requires-clause-notes
begin-requires-clause-notes g c =
    let q = c.ready_to_note.new.self in
    let m = machine_in g.A.Actor.state g.A.Actor.saved_state c.args.self.now in
    let s = c.index_mut-thread.result.now in
    let same = c.in_ok-ready_to_note.ensures.same in
    let h : c.args.t < length q.threads.items = started_in g.A.Actor.state g.A.Actor.saved_state q m c.args.t same c.requires.here.1.started in
    let is = c.requires.here.1.at (local_of g.A.Actor.state g.A.Actor.saved_state q.holders c.args.t s)
    (at_in g.A.Actor.state g.A.Actor.saved_state q m c.args.t s same h c.index_mut-thread.ensures.value) in
    let p = layout_of q.memory in
    let sound = whole_sound p q.limit q.holders q.threads.items c.args.t s q.whole h c.index_mut-thread.ensures.value in
    (idle_log g.A.Actor.saved_state p s sound is.tx).0

pub begin-requires-clause-marks : goal.begin-requires-clause-marks
begin-requires-clause-marks g c =
    let q = c.ready_to_note.new.self in
    let m = machine_in g.A.Actor.state g.A.Actor.saved_state c.args.self.now in
    let s = c.index_mut-thread.result.now in
    let same = c.in_ok-ready_to_note.ensures.same in
    let h : c.args.t < length q.threads.items = started_in g.A.Actor.state g.A.Actor.saved_state q m c.args.t same c.requires.here.1.started in
    let is = c.requires.here.1.at (local_of g.A.Actor.state g.A.Actor.saved_state q.holders c.args.t s)
    (at_in g.A.Actor.state g.A.Actor.saved_state q m c.args.t s same h c.index_mut-thread.ensures.value) in
    let p = layout_of q.memory in
    let sound = whole_sound p q.limit q.holders q.threads.items c.args.t s q.whole h c.index_mut-thread.ensures.value in
    (idle_log g.A.Actor.saved_state p s sound is.tx).1

pub invariant_of-self : goal.invariant_of-self
invariant_of-self g c =
    let q = c.ready_to_note.new.self in
    let m = machine_in g.A.Actor.state g.A.Actor.saved_state c.args.self.now in
    let s = c.index_mut-thread.result.now in
    let same = c.in_ok-ready_to_note.ensures.same in
    let h : c.args.t < length q.threads.items = started_in g.A.Actor.state g.A.Actor.saved_state q m c.args.t same c.requires.here.1.started in
    let is = c.requires.here.1.at (local_of g.A.Actor.state g.A.Actor.saved_state q.holders c.args.t s)
    (at_in g.A.Actor.state g.A.Actor.saved_state q m c.args.t s same h c.index_mut-thread.ensures.value) in
    let p = layout_of q.memory in
    let sound = whole_sound p q.limit q.holders q.threads.items c.args.t s q.whole h c.index_mut-thread.ensures.value in
    record { whole = whole_set p q.limit q.holders q.threads.items c.args.t c.begin.new.self q.whole (c.begin.ensures.sound p sound) }

pub invariant_of-self-2 : goal.invariant_of-self-2
invariant_of-self-2 g c =
    let q = c.ready_to_note.new.self in
    let m = machine_in g.A.Actor.state g.A.Actor.saved_state c.args.self.now in
    let s = c.index_mut-thread.result.now in
    let same = c.in_ok-ready_to_note.ensures.same in
    let h : c.args.t < length q.threads.items = started_in g.A.Actor.state g.A.Actor.saved_state q m c.args.t same c.requires.here.1.started in
    let is = c.requires.here.1.at (local_of g.A.Actor.state g.A.Actor.saved_state q.holders c.args.t s)
    (at_in g.A.Actor.state g.A.Actor.saved_state q m c.args.t s same h c.index_mut-thread.ensures.value) in
    let p = layout_of q.memory in
    let sound = whole_sound p q.limit q.holders q.threads.items c.args.t s q.whole h c.index_mut-thread.ensures.value in
    record { whole = whole_set p q.limit q.holders q.threads.items c.args.t c.begin.new.self q.whole (c.begin.ensures.sound p sound) }

pub returns-in_err-begin-clause-same : goal.returns-in_err-begin-clause-same
returns-in_err-begin-clause-same g c =
    let q = c.ready_to_note.new.self in
    let m = machine_in g.A.Actor.state g.A.Actor.saved_state c.args.self.now in
    let s = c.index_mut-thread.result.now in
    let same = c.in_ok-ready_to_note.ensures.same in
    let h : c.args.t < length q.threads.items = started_in g.A.Actor.state g.A.Actor.saved_state q m c.args.t same c.requires.here.1.started in
    let is = c.requires.here.1.at (local_of g.A.Actor.state g.A.Actor.saved_state q.holders c.args.t s)
    (at_in g.A.Actor.state g.A.Actor.saved_state q m c.args.t s same h c.index_mut-thread.ensures.value) in
    let p = layout_of q.memory in
    let sound = whole_sound p q.limit q.holders q.threads.items c.args.t s q.whole h c.index_mut-thread.ensures.value in
    let n = machine_in g.A.Actor.state g.A.Actor.saved_state q in
    on_err c.from_residual-in_err-begin.result (changed n
    (threads_of g.A.Actor.state g.A.Actor.saved_state q.holders (set q.threads.items c.args.t c.begin.new.self)) n.threads
    (waits_by (set q.threads.items c.args.t c.begin.new.self)) n.waits (length (set q.threads.items c.args.t c.begin.new.self))
    (same_thread g.A.Actor.state g.A.Actor.saved_state q.holders q.threads.items c.args.t s c.begin.new.self h c.index_mut-thread.ensures.value
    (c.in_err-begin.ensures.same q.holders c.args.t))
    (same_waits q.threads.items c.args.t s c.begin.new.self h c.index_mut-thread.ensures.value c.in_err-begin.ensures.same_waits)
    (length-set q.threads.items c.args.t c.begin.new.self)
    ∙ same)

pub returns-clause-done : goal.returns-clause-done
returns-clause-done g c = λ l at.
    let q = c.ready_to_note.new.self in
    let m = machine_in g.A.Actor.state g.A.Actor.saved_state c.args.self.now in
    let s = c.index_mut-thread.result.now in
    let same = c.in_ok-ready_to_note.ensures.same in
    let h : c.args.t < length q.threads.items = started_in g.A.Actor.state g.A.Actor.saved_state q m c.args.t same c.requires.here.1.started in
    let is = c.requires.here.1.at (local_of g.A.Actor.state g.A.Actor.saved_state q.holders c.args.t s)
    (at_in g.A.Actor.state g.A.Actor.saved_state q m c.args.t s same h c.index_mut-thread.ensures.value) in
    let p = layout_of q.memory in
    let sound = whole_sound p q.limit q.holders q.threads.items c.args.t s q.whole h c.index_mut-thread.ensures.value in
    let n = machine_in g.A.Actor.state g.A.Actor.saved_state q in
    begin_row c.args.t n m _ l (g.A.Actor.thread.after l.state Nothing) same
    (stepped g.A.Actor.state g.A.Actor.saved_state n q.holders q.holders q.threads.items c.args.t s c.begin.new.self l
    (λ (v : Local g.A.Actor.State). record v {
      state = g.A.Actor.thread.after v.state Nothing;
      tx = OpenTx q.births (g.A.Actor.thread.after v.state Nothing)
          (no_save ∷ []);
    }) refl refl refl h c.index_mut-thread.ensures.value (ap (λ z. z.threads c.args.t) same ∙ at) (same_holds c.args.t q.holders)
    (c.in_ok-begin.ensures.local q.holders c.args.t) c.in_ok-begin.ensures.waits)
